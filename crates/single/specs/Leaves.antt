-- The records by which the calls promise: two answers that meet one of them for the same input are equal, and so is every lent
-- number and byte afterwards. Whatever the definition's answer is, these hold.
-- Assumes nothing.
use Rattle.std.specs.Prelude.{ℕ, ◌≡◌, List}
use Rattle.std.proofs.Common.{sym, ◌∙◌}
use Rattle.std.specs.Borrow.{Bor}
use Rattle.document.specs.Refusals.{Answer}
use Rattle.document.specs.Session.{Session, Happened}
use Rattle.document.specs.Log as document
use Rattle.document.specs.Property.{Property}
use Rattle.basics.specs.Sets.{holds_single}
use Rattle.fields.specs.declared.Part.{Part}
use Rattle.fields.specs.Places.{PartAt, ToldAt}
use Rattle.hopes.specs.declared.Checked.{Checked}
use Rattle.hopes.specs.Hoping.{Checks}
use Rattle.steps.specs.declared.Answered.{Answered}
use Rattle.starting.specs.Starts.{StartLeaves}
use Rattle.steps.specs.Steps.{Leaves}
use Rattle.turns.specs.declared.Ran.{Ran}
use Rattle.turns.specs.Turns.{RunLeaves}
use Rattle.runs.specs.PrintPart.{PrintedTo}
use Rattle.printrow.specs.declared.Printed.{Printed}
use Rattle.printing.specs.Prints.{PrintLeaves}

-- a part that is given back: its bytes and its place
pub part_at_single : {lent : Bor (List ℕ)} {start : ℕ} {bytes : List ℕ} {r q : Bor (List ℕ)}
    → PartAt lent start bytes r → PartAt lent start bytes q → (r.now ≡ q.now) × (r.ref_ptr ≡ q.ref_ptr)
part_at_single x y = (x.holds ∙ sym y.holds, x.lies ∙ sym y.lies)

-- the same part told by numbers
pub told_single : {text : List ℕ} {start : ℕ} {bytes : List ℕ} {r q : Part} → ToldAt text start bytes r → ToldAt text start bytes q → r ≡ q
told_single x y = λ i. record { start = (x.starts ∙ sym y.starts) i; size = (x.sizes ∙ sym y.sizes) i }

-- what the check of a property table says
pub checks_single : {p : Property} {r q : Checked} → Checks p r → Checks p q → r ≡ q
checks_single {p} {r} {q} x y =
    let h = holds_single r.hopeful q.hopeful (λ s. x.hopes s ∙ sym (y.hopes s)) in
    λ i. record { refusal = (x.says ∙ sym y.says) i; hopeful = h i }

pub start_leaves_single : {a : Answer Session} {seen kept : List ℕ} {r q : Answered} {seen' seen'' kept' kept'' : List ℕ}
    → StartLeaves a seen kept r seen' kept' → StartLeaves a seen kept q seen'' kept''
    → (r ≡ q) × (seen' ≡ seen'') × (kept' ≡ kept'')
start_leaves_single x y = (x.says ∙ sym y.says, x.seen_left ∙ sym y.seen_left, x.kept_left ∙ sym y.kept_left)

pub leaves_single : {a : Answer Happened} {s : Session} {reports : List ℕ} {r q : Answered}
    {seen' seen'' kept' kept'' reports' reports'' : List ℕ}
    → Leaves a s reports r seen' kept' reports' → Leaves a s reports q seen'' kept'' reports''
    → (r ≡ q) × (seen' ≡ seen'') × (kept' ≡ kept'') × (reports' ≡ reports'')
leaves_single x y = (
  x.says ∙ sym y.says,
  x.seen_left ∙ sym y.seen_left,
  x.kept_left ∙ sym y.kept_left,
  x.reports_left ∙ sym y.reports_left,
)

pub run_leaves_single : {a : document.Ran} {r q : Ran} {seen' seen'' kept' kept'' reports' reports'' : List ℕ}
    → RunLeaves a r seen' kept' reports' → RunLeaves a q seen'' kept'' reports''
    → (r ≡ q) × (seen' ≡ seen'') × (kept' ≡ kept'') × (reports' ≡ reports'')
run_leaves_single x y = (
  x.says ∙ sym y.says,
  x.seen_left ∙ sym y.seen_left,
  x.kept_left ∙ sym y.kept_left,
  x.reports_left ∙ sym y.reports_left,
)

pub print_leaves_single : {refusal : ℕ} {a : PrintedTo} {text : List ℕ} {r q : Printed}
    {seen' seen'' kept' kept'' reports' reports'' text' text'' : List ℕ}
    → PrintLeaves refusal a text r seen' kept' reports' text' → PrintLeaves refusal a text q seen'' kept'' reports'' text''
    → (r ≡ q) × (seen' ≡ seen'') × (kept' ≡ kept'') × (reports' ≡ reports'') × (text' ≡ text'')
print_leaves_single x y = (
  x.says ∙ sym y.says,
  x.seen_left ∙ sym y.seen_left,
  x.kept_left ∙ sym y.kept_left,
  x.reports_left ∙ sym y.reports_left,
  x.text_left ∙ sym y.text_left,
)
