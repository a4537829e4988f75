-- Laws of writing: bytes written where others ended are written after them; a byte more at the end or before the start; the
-- text keeps its length.
-- Assumes nothing.
use Rattle.std.specs.Prelude.{ℕ, suc, ◌+◌, ◌-◌, ◌≤◌, ◌<◌, ◌≡◌, refl, List, [], ◌∷◌, ◌++◌, length, get_or, take, drop, set}
use Rattle.std.proofs.Common.{sym, ap, ◌∙◌, append_assoc, append-nil, arith, add-one, length-append, length-take, length-drop, take-append-drop, length-take-le, take-suc, take-suc-set, take_at, drop-drop}
use Rattle.std.proofs.Math.Seq.{take-length, append_snoc, take-set-lt, drop-append-add}
use Rattle.std.proofs.lemmas.List.{set_split, set-append_left}
use borrow.Rule.Slice.PartMut.{put_mid}
use Rattle.decimals.specs.Written.{Written}

-- the length stays
pub written-length : (at most : ℕ) (x t t' : List ℕ) (k : ℕ) → Written at most x t t' k → length t' ≡ length t
written-length at most x t t' k w =
    let f = w.fits in
    ap length w.text ∙ simp (length-append, length-take, length-drop) (omega arith)

-- nothing, and one byte
pub written_none : (at : ℕ) (t : List ℕ) → at ≤ length t → Written at 0 [] t t at
written_none at t h = record {
  text = let z : at + 0 ≡ at = omega arith in sym (rw (z, append-nil) (take-append-drop at t));
  ends = omega arith;
  fits = omega arith;
  few = omega arith;
}

pub written_byte : (at b : ℕ) (t : List ℕ) → at < length t → Written at 1 (b ∷ []) t (set t at b) (at + 1)
written_byte at b t h = record {
  text = set_split t at b h ∙ sym (append_snoc (take at t) b (drop (suc at) t)) ∙ rw (add-one at);
  ends = refl;
  fits = omega arith;
  few = omega arith;
}

-- a part of the text, written as a slice
pub written_part : (at n : ℕ) (x t : List ℕ) → at + n ≤ length t → length x ≡ n → Written at n x t (put_mid at (at + n - at) t x) (at + n)
written_part at n x t h e = record {
  text =
      let k : at + n - at ≡ length x = omega arith in
      rw (k, drop-drop (length x) at t) (sym (append_assoc (take at t) x (drop (at + length x) t)));
  ends = omega arith;
  fits = omega arith;
  few = omega arith;
}

-- bytes after others
then_text : (at : ℕ) (x y t : List ℕ) → at + length x ≤ length t
    → take (at + length x) (take at t ++ x ++ drop (at + length x) t) ++ y
    ++ drop (at + length x + length y) (take at t ++ x ++ drop (at + length x) t)
    ≡ take at t ++ (x ++ y) ++ drop (at + length (x ++ y)) t
then_text at x y t h =
    let l : length (take at t ++ x) ≡ at + length x = simp (length-append, length-take) (omega arith) in
    let a = take_at (take at t ++ x) (drop (at + length x) t) (at + length x) l in
    let b : drop (at + length x + length y) (take at t ++ x ++ drop (at + length x) t) ≡ drop (at + length x + length y) t =
    rw l at (drop-append-add (take at t ++ x) (drop (at + length x) t) (length y)) ∙ drop-drop (length y) (at + length x) t in
    let c : at + length (x ++ y) ≡ at + length x + length y = rw length-append (omega arith) in
    rw (a, b, c, append_assoc (take at t) x y)

pub written_then : (at k n m m' : ℕ) (x y t t' t'' : List ℕ) → Written at m x t t' k → Written k m' y t' t'' n → Written at (m + m') (x ++ y) t t'' n
written_then at k n m m' x y t t' t'' v w =
    let f = v.fits in
    let g = w.fits in
    let e = v.ends in
    let o = w.ends in
    let p = v.few in
    let q = w.few in
    let l = written-length at m x t t' k v in
    let z : length (x ++ y) ≡ length x + length y = length-append x y in
    record {
      text = w.text ∙ rw (e, v.text) (then_text at x y t f);
      ends = omega arith;
      fits = omega arith;
      few = omega arith;
    }

-- a byte before others
pub written_before : (at k m b : ℕ) (x t t' : List ℕ) → 0 < at → Written at m x t t' k → Written (at - 1) (m + 1) (b ∷ x) t (set t' (at - 1) b) k
written_before at k m b x t t' h w =
    let e : at ≡ suc (at - 1) = omega arith in
    let f = w.fits in
    let o = w.ends in
    let p = w.few in
    record {
      text = rw w.text (go (at - 1) at e f);
      ends = omega arith;
      fits = omega arith;
      few = omega arith;
    }
  where
    go : (q p : ℕ) → p ≡ suc q → p + length x ≤ length t
        → set (take p t ++ x ++ drop (p + length x) t) q b ≡ take q t ++ (b ∷ x) ++ drop (q + suc (length x)) t
    go q p e f =
        let i : q < length t = omega arith in
        let l : length (take (suc q) t) ≡ suc q = length-take-le (suc q) t (omega arith) in
        let j : q < length (take (suc q) t) = omega arith in
        let g : q < length (take (suc q) t ++ x) = rw length-append (omega arith) in
        let s : suc q + length x ≡ q + suc (length x) = omega arith in
        rw (e, s)
        (set-append_left (take (suc q) t ++ x) (drop (q + suc (length x)) t) q b g
        ∙ rw (set-append_left (take (suc q) t) x q b j, ← take-set-lt (suc q) t q b (omega arith), take-suc-set t q b i, append_assoc (take q t) (b ∷ []) x))

-- the same bytes said otherwise, and a wider bound
pub written_as : (at m k : ℕ) (x y t t' : List ℕ) → Written at m x t t' k → x ≡ y → Written at m y t t' k
written_as at m k x y t t' w e = rw e at w

pub written_within : (at m n k : ℕ) (x t t' : List ℕ) → Written at m x t t' k → m ≤ n → Written at n x t t' k
written_within at m n k x t t' w h = record { text = w.text; ends = w.ends; fits = w.fits; few = let p = w.few in omega arith }

-- A word written byte by byte: its first i bytes stand.
pub word_begins : (at : ℕ) (word t : List ℕ) → at + length word ≤ length t → Written at 0 (take 0 word) t t (at + 0)
word_begins at word t h = let e : at + 0 ≡ at = omega arith in rw e (written_none at t (omega arith))

pub word_turn : (at i : ℕ) (word t t' : List ℕ) → i < length word → at + length word ≤ length t' → Written at i (take i word) t t' (at + i)
    → Written at (i + 1) (take (i + 1) word) t (set t' (at + i) (get_or word i 0)) (at + (i + 1))
word_turn at i word t t' h l w =
    let e : at + (i + 1) ≡ at + i + 1 = omega arith in
    rw (e, add-one i, take-suc word i 0 h)
    (rw (← add-one i) (written_then at (at + i) (at + i + 1) i 1 (take i word) (get_or word i 0 ∷ []) t t' _ w (written_byte (at + i) (get_or word i 0) t' (omega arith))))

pub word_ends : (at i : ℕ) (word t t' : List ℕ) → i ≤ length word → length word ≤ i → Written at i (take i word) t t' (at + i)
    → Written at (length word) word t t' (at + i)
word_ends at i word t t' h l w = let e : i ≡ length word = omega arith in rw e (rw (e, take-length) at w)
