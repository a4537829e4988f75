-- Laws of lines: their pieces, written one after another, are the line; its length has a bound.
-- Assumes nothing.
use Rattle.std.specs.Prelude.{ℕ, zero, suc, ◌+◌, ◌-◌, ◌*◌, ◌^◌, ◌≤◌, ◌<◌, ◌≡◌, refl, List, [], ◌∷◌, ◌++◌, length, get_or, take, drop, replicate}
use Rattle.std.proofs.Common.{sym, ap, ◌∙◌, append_assoc, append-nil, arith, add-one, take-suc, take-take, drop-drop, get_or-take, get_or-drop, eq-eqb, ne_eqb}
use mathlib.Core.List as list
use Rattle.std.proofs.Math.Seq.{take-length}
use Rattle.std.proofs.lemmas.List.{length-replicate}
use borrow.Rule.Slice.PartMut.{put_mid}
use Rattle.std.specs.Simd.{first_chunks}
use Rattle.document.specs.Lists.{joined_up}
use Rattle.document.specs.Limits.{width, report_stride}
use Rattle.document.specs.Classes.{comma, match_word, fail_word}
use Rattle.document.specs.Patterns.{match}
use Rattle.document.specs.Refusals.{Refusal, number}
use Rattle.document.specs.Printing.{decimal, line_end, refused_word, word_of, refused_text, with_commas, value_text, line, report_line, report_lines, refused_line}
use Rattle.decimals.specs.Written.{Written}
use Rattle.decimals.specs.WrittenLaws.{written_none, written_part, written_then, written_within}
use Rattle.decimals.specs.Decimals.{most_digits}
use Rattle.decimals.specs.DecimalsLaws.{decimal-usize, decimal_value, decimal_byte}
use Rattle.lineparts.specs.Lines.{values_text, refused_number_text, refused_number_line, most_value, most_values, most_verdict, most_refused, most_line, most_refusal, line_end_bytes}

-- A number with the widest bound; a value ---------------------------------------------------------------------------------

pub number-written : (at n x : ℕ) (t t' : List ℕ) → x < 2 ^ 64 → Written at (length (decimal x)) (decimal x) t t' n → Written at most_digits (decimal x) t t' n
number-written at n x t t' b w = written_within at (length (decimal x)) most_digits n (decimal x) t t' w (decimal-usize x b)

-- "empty where unbound"
pub value_unbound : (at n x : ℕ) (t t' : List ℕ) → Written at 1 (comma ∷ []) t t' n → x ≡ 0 → Written at most_value (comma ∷ value_text x) t t' n
unfolding value_text
value_unbound at n x t t' w e = rw e (written_within at 1 most_value n (comma ∷ []) t t' w (omega arith))

pub value_bound : (at k n x : ℕ) (t t' t'' : List ℕ) → x < 2 ^ 32 → Written at 1 (comma ∷ []) t t' k → (x ≡ 0 → ⊥)
    → Written k (length (decimal x)) (decimal x) t' t'' n → Written at most_value (comma ∷ value_text x) t t'' n
unfolding value_text
value_bound at k n x t t' t'' b v z w =
    let l = decimal_value x b in
    rw (ne_eqb x 0 z)
    (written_within at (1 + length (decimal x)) most_value n (comma ∷ decimal x) t t''
    (written_then at k n 1 (length (decimal x)) (comma ∷ []) (decimal x) t t' t'' v w) (omega arith))

-- The loop over values ----------------------------------------------------------------------------------------------------

values_snoc : (xs : List ℕ) (x : ℕ) → values_text (xs ++ (x ∷ [])) ≡ values_text xs ++ (comma ∷ value_text x)
unfolding values_text with_commas joined_up
values_snoc [] x = append-nil (comma ∷ value_text x)
values_snoc (y ∷ xs) x = ap (λ l. (comma ∷ value_text y) ++ l) (values_snoc xs x) ∙ sym (append_assoc (comma ∷ value_text y) (values_text xs) (comma ∷ value_text x))

pub values_begin : (at : ℕ) (t : List ℕ) → at ≤ length t → Written at (0 * most_value) (values_text []) t t at
unfolding values_text with_commas joined_up
values_begin at t h = written_none at t h

pub values_turn : (at j k n : ℕ) (l t t' t'' : List ℕ) → Written at (j * most_value) (values_text (take j l)) t t' k
    → Written k most_value (comma ∷ value_text (get_or l j 0)) t' t'' n → j < length l
    → Written at ((j + 1) * most_value) (values_text (take (j + 1) l)) t t'' n
values_turn at j k n l t t' t'' v w h =
    let e : take (j + 1) l ≡ take j l ++ (get_or l j 0 ∷ []) = rw (add-one j, take-suc l j 0 h) in
    let z : (j + 1) * most_value ≡ j * most_value + most_value = omega arith in
    rw (e, values_snoc, z)
    (written_then at k n (j * most_value) most_value (values_text (take j l)) (comma ∷ value_text (get_or l j 0)) t t' t'' v w)

pub values_end : (at j n : ℕ) (l t t' : List ℕ) → length l ≤ width → j ≤ length l → length l ≤ j
    → Written at (j * most_value) (values_text (take j l)) t t' n → Written at most_values (values_text l) t t' n
values_end at j n l t t' c a b w =
    let e : j ≡ length l = omega arith in
    written_within at (length l * most_value) most_values n (values_text l) t t' (rw (e, take-length) at w) (omega arith)

-- Empty values ------------------------------------------------------------------------------------------------------------

pub commas_are : (n : ℕ) → with_commas (replicate n []) ≡ replicate n comma
unfolding with_commas joined_up
commas_are zero = refl
commas_are (suc n) = ap (λ l. comma ∷ l) (commas_are n)

pub commas_begin : (at : ℕ) (t : List ℕ) → at ≤ length t → Written at 0 (replicate 0 comma) t t (at + 0)
commas_begin at t h = let e : at + 0 ≡ at = omega arith in rw e (written_none at t h)

pub commas_written : (at n : ℕ) (t x : List ℕ) → at + n ≤ length t → x ≡ replicate n comma
    → Written at n (with_commas (replicate n [])) t (put_mid at (at + n - at) t x) (at + n)
commas_written at n t x h e = rw (commas_are n, e) (written_part at n (replicate n comma) t h (rw length-replicate))

-- A whole line ------------------------------------------------------------------------------------------------------------

-- "row,verdict" and so on: the first field, the next with its comma, the others with theirs, and the line end
line-is : (first f : List ℕ) (fs : List (List ℕ)) → first ++ (comma ∷ f) ++ with_commas fs ++ line_end ≡ line first (f ∷ fs)
unfolding line with_commas joined_up
line-is first f fs = rw (append_assoc first (comma ∷ f) (with_commas fs))

line-written : (at k l p n a b c most : ℕ) (first f : List ℕ) (fs : List (List ℕ)) (t t₁ t₂ t₃ t₄ : List ℕ)
    → Written at a first t t₁ k → Written k b (comma ∷ f) t₁ t₂ l → Written l c (with_commas fs) t₂ t₃ p → Written p line_end_bytes line_end t₃ t₄ n
    → a + b + c + line_end_bytes ≤ most → Written at most (line first (f ∷ fs)) t t₄ n
line-written at k l p n a b c most first f fs t t₁ t₂ t₃ t₄ u v w x h =
    let one = written_then at k l a b first (comma ∷ f) t t₁ t₂ u v in
    let two = written_then at l p (a + b) c (first ++ (comma ∷ f)) (with_commas fs) t t₂ t₃ one w in
    let all = written_then at p n (a + b + c) line_end_bytes (first ++ (comma ∷ f) ++ with_commas fs) line_end t t₃ t₄ two x in
    written_within at (a + b + c + line_end_bytes) most n (line first (f ∷ fs)) t t₄ (rw (line-is first f fs) at all) h

-- the verdict's word
pub verdict-match : (at n v : ℕ) (t t' : List ℕ) → v ≡ match → Written at 6 (comma ∷ match_word) t t' n → Written at most_verdict (comma ∷ word_of v) t t' n
unfolding word_of
verdict-match at n v t t' e w = rw (eq-eqb v match e) w

pub verdict-fail : (at n v : ℕ) (t t' : List ℕ) → (v ≡ match → ⊥) → Written at 5 (comma ∷ fail_word) t t' n → Written at most_verdict (comma ∷ word_of v) t t' n
unfolding word_of
verdict-fail at n v t t' e w = rw (ne_eqb v match e) (written_within at 5 most_verdict n (comma ∷ fail_word) t t' w (omega arith))

-- the line of a report
report_is : (m n from : ℕ) (l : List ℕ) → m ≤ width
    → line (decimal n) (word_of (get_or l (from + width) 0) ∷ list.map value_text (take m (drop from l))) ≡ report_line m n (take report_stride (drop from l))
unfolding report_line
report_is m n from l h =
    rw (take-take m report_stride (drop from l) (omega arith), get_or-take report_stride (drop from l) width 0 (omega arith), get_or-drop from l width 0)

pub report_written : (at k l p n m row : ℕ) (report t t₁ t₂ t₃ t₄ : List ℕ)
    → Written at most_digits (decimal row) t t₁ k → Written k most_verdict (comma ∷ word_of (get_or report width 0)) t₁ t₂ l
    → Written l most_values (values_text (take m report)) t₂ t₃ p → Written p line_end_bytes line_end t₃ t₄ n
    → Written at most_line (report_line m row report) t t₄ n
unfolding values_text report_line
report_written at k l p n m row report t t₁ t₂ t₃ t₄ u v w x =
    line-written at k l p n most_digits most_verdict most_values most_line (decimal row) (word_of (get_or report width 0))
    (list.map value_text (take m report)) t t₁ t₂ t₃ t₄ u v w x (omega arith)

-- The loop over reports ---------------------------------------------------------------------------------------------------

reports_snoc : (m n k : ℕ) (l : List ℕ)
    → report_lines m n (suc k) l ≡ report_lines m n k l ++ report_line m n (take report_stride (drop (k * report_stride) l))
unfolding report_lines
reports_snoc m n zero l = append-nil (report_line m n (take report_stride l))
reports_snoc m n (suc k) l =
    let first = report_line m n (take report_stride l) in
    let e : report_stride + k * report_stride ≡ suc k * report_stride = omega arith in
    ap (λ x. first ++ x) (reports_snoc m n k (drop report_stride l))
    ∙ sym (append_assoc first (report_lines m n k (drop report_stride l)) (report_line m n (take report_stride (drop (k * report_stride) (drop report_stride l)))))
    ∙ rw (drop-drop (k * report_stride) report_stride l, e)

pub reports_begin : (at m n : ℕ) (l t : List ℕ) → at ≤ length t → Written at (0 * most_line) (report_lines m n 0 l) t t at
unfolding report_lines
reports_begin at m n l t h = written_none at t h

chunk_is : (k j : ℕ) (l d : List ℕ) → j < k → get_or (first_chunks report_stride k l) j d ≡ take report_stride (drop (j * report_stride) l)
chunk_is zero j l d h = absurd (omega arith)
chunk_is (suc k) zero l d h = refl
chunk_is (suc k) (suc j) l d h =
    let e : suc j * report_stride ≡ report_stride + j * report_stride = omega arith in
    chunk_is k j (drop report_stride l) d (omega arith) ∙ rw (drop-drop (j * report_stride) report_stride l, e)

pub chunk_at : (k j count : ℕ) (l : List ℕ) (chunks : List (List ℕ)) → chunks ≡ first_chunks report_stride k l → j < count → count ≤ k
    → get_or (take count chunks) j [] ≡ take report_stride (drop (j * report_stride) l)
chunk_at k j count l chunks e h g = get_or-take count chunks j [] h ∙ rw e (chunk_is k j l [] (omega arith))

pub reports-turn : (at j k n m row : ℕ) (l report t t' t'' : List ℕ) → report ≡ take report_stride (drop (j * report_stride) l)
    → Written at (j * most_line) (report_lines m row j l) t t' k → Written k most_line (report_line m row report) t' t'' n
    → Written at ((j + 1) * most_line) (report_lines m row (j + 1) l) t t'' n
reports-turn at j k n m row l report t t' t'' e v w =
    let z : (j + 1) * most_line ≡ j * most_line + most_line = omega arith in
    let last = report_line m row (take report_stride (drop (j * report_stride) l)) in
    rw (z, add-one j, reports_snoc m row j l)
    (written_then at k n (j * most_line) most_line (report_lines m row j l) last t t' t'' v (rw e at w))

pub reports-end : (at j m n row count : ℕ) (l t t' : List ℕ) → j ≤ count → count ≤ j
    → Written at (j * most_line) (report_lines m row j l) t t' n → Written at (count * most_line) (report_lines m row count l) t t' n
reports-end at j m n row count l t t' a b w = let e : j ≡ count = omega arith in rw e at w

-- A refused row, a refused call ---------------------------------------------------------------------------------------------

pub refused_text_written : (at k n q : ℕ) (t t' t'' : List ℕ) → q < 256 → Written at 8 refused_word t t' k
    → Written k (length (decimal q)) (decimal q) t' t'' n → Written at most_refused (refused_number_text q) t t'' n
unfolding refused_number_text
refused_text_written at k n q t t' t'' b v w =
    let l = decimal_byte q b in
    written_within at (8 + length (decimal q)) most_refused n (refused_word ++ decimal q) t t''
    (written_then at k n 8 (length (decimal q)) refused_word (decimal q) t t' t'' v w) (omega arith)

pub refused_line_written : (at k l p s n m row q : ℕ) (t t₁ t₂ t₃ t₄ t₅ : List ℕ) → m ≤ width
    → Written at most_digits (decimal row) t t₁ k → Written k 1 (comma ∷ []) t₁ t₂ l → Written l most_refused (refused_number_text q) t₂ t₃ p
    → Written p m (with_commas (replicate m [])) t₃ t₄ s → Written s line_end_bytes line_end t₄ t₅ n
    → Written at most_line (refused_number_line m row q) t t₅ n
unfolding refused_number_line
refused_line_written at k l p s n m row q t t₁ t₂ t₃ t₄ t₅ h u v w x y =
    line-written at k p s n most_digits (1 + most_refused) m most_line (decimal row) (refused_number_text q) (replicate m []) t t₁ t₃ t₄ t₅ u
    (written_then k l p 1 most_refused (comma ∷ []) (refused_number_text q) t₁ t₂ t₃ v w) x y (omega arith)

pub refusal-written : (at k n q : ℕ) (t t' t'' : List ℕ) → Written at most_refused (refused_number_text q) t t' k → Written k line_end_bytes line_end t' t'' n
    → Written at most_refusal (refused_number_text q ++ line_end) t t'' n
refusal-written at k n q t t' t'' v w = written_then at k n most_refused line_end_bytes (refused_number_text q) line_end t t' t'' v w

pub refused_line_number : (m n : ℕ) (r : Refusal) → refused_line m n r ≡ refused_number_line m n (number r)
unfolding refused_line refused_number_line refused_text refused_number_text
refused_line_number m n r = refl
