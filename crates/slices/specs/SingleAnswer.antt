-- Demand 3 leaves a single answer: what a list holds, in order, determines the list, and so the event's answer and the
-- lookup's are determined by the history and the tables lent.
-- Assumes nothing.
use Rattle.std.specs.Prelude.{ℕ, ◌≡◌, refl, List}
use Rattle.document.specs.Refusals.{Answer}
use Rattle.document.specs.Histories.{Event}
use Rattle.document.specs.Property.{Property}
use Rattle.document.specs.Session.{Outcome, Found}
use Rattle.document.specs.Demands.{Lists, itself, SeenIn, KeptIn, ReportedIn, ComesTo, LooksUp, is_held, is_hopeless}
use Rattle.slices.specs.OrderLaws.{ascending_of, ascends_unique}

pub lists_single : {A : Type 0} (f : A → List ℕ) (P : A → Type 0) (l m : List A) → Lists f P l → Lists f P m → l ≡ m
lists_single f P l m a b =
    ascends_unique f l m (ascending_of _ a.order) (ascending_of _ b.order)
    (λ x. ((λ i. (b.exactly x).1 ((a.exactly x).0 i)), (λ i. (a.exactly x).1 ((b.exactly x).0 i))))

pub comes_to_single : (p : Property) (H : List Event) (b : List ℕ) (o q : Outcome) → ComesTo p H b o → ComesTo p H b q → o ≡ q
comes_to_single p H b o q x y =
    let seen : o.seen ≡ q.seen = lists_single itself (SeenIn H) o.seen q.seen x.seen y.seen in
    let kept : o.kept ≡ q.kept = lists_single (λ k. k.combination) (KeptIn p H) o.kept q.kept x.kept y.kept in
    let rows : o.rows ≡ q.rows = lists_single (λ k. k.combination) (ReportedIn p H b) o.rows q.rows x.rows y.rows in
    λ i. record { seen = seen i; kept = kept i; rows = rows i }

pub looks_up_single : (p : Property) (H : List Event) (c : List ℕ) (a d : Answer Found) → LooksUp p H c a → LooksUp p H c d → a ≡ d
looks_up_single p H c a d (is_held l) (is_held m) = refl
looks_up_single p H c a d (is_held l) (is_hopeless m) = absurd (m l)
looks_up_single p H c a d (is_hopeless l) (is_held m) = absurd (l m)
looks_up_single p H c a d (is_hopeless l) (is_hopeless m) = refl
