-- What the writing of a row leaves: the numbers of the table afterwards, by their places.
-- Assumes nothing.
use Rattle.std.specs.Prelude.{ℕ, ◌+◌, ◌<◌, ◌≤◌, ◌≡◌, List, get_or}
use Rattle.document.specs.Limits.{width, seen_stride, kept_stride}

-- the numbers from place a up to n moved up by some places; what stood in the gap stays
pub record Raised (by a n : ℕ) (t t' : List ℕ) : Type 0 where
  pub low : (k : ℕ) → k < a + by → get_or t' k 0 ≡ get_or t k 0
  pub mid : (k : ℕ) → a ≤ k → k < n → get_or t' (k + by) 0 ≡ get_or t k 0
  pub high : (k : ℕ) → n + by ≤ k → get_or t' k 0 ≡ get_or t k 0

-- the first j numbers of c written from place a on
pub record Pasted (j a : ℕ) (c t t' : List ℕ) : Type 0 where
  pub inside : (k : ℕ) → k < j → get_or t' (a + k) 0 ≡ get_or c k 0
  pub low : (k : ℕ) → k < a → get_or t' k 0 ≡ get_or t k 0
  pub high : (k : ℕ) → a + j ≤ k → get_or t' k 0 ≡ get_or t k 0

-- a seen row put in at place a, what stood from a up to n moved up
pub record SeenInserted (a n : ℕ) (c t t' : List ℕ) : Type 0 where
  pub row : (k : ℕ) → k < width → get_or t' (a + k) 0 ≡ get_or c k 0
  pub low : (k : ℕ) → k < a → get_or t' k 0 ≡ get_or t k 0
  pub mid : (k : ℕ) → a ≤ k → k < n → get_or t' (k + seen_stride) 0 ≡ get_or t k 0
  pub high : (k : ℕ) → n + seen_stride ≤ k → get_or t' k 0 ≡ get_or t k 0

-- a combination and a number after it stand at place a; all else is as it was
pub record Put (a : ℕ) (c : List ℕ) (s : ℕ) (t t' : List ℕ) : Type 0 where
  pub row : (k : ℕ) → k < width → get_or t' (a + k) 0 ≡ get_or c k 0
  pub last : get_or t' (a + width) 0 ≡ s
  pub low : (k : ℕ) → k < a → get_or t' k 0 ≡ get_or t k 0
  pub high : (k : ℕ) → a + kept_stride ≤ k → get_or t' k 0 ≡ get_or t k 0

-- such a row put in at place a, what stood from a up to n moved up
pub record Inserted (a n : ℕ) (c : List ℕ) (s : ℕ) (t t' : List ℕ) : Type 0 where
  pub row : (k : ℕ) → k < width → get_or t' (a + k) 0 ≡ get_or c k 0
  pub last : get_or t' (a + width) 0 ≡ s
  pub low : (k : ℕ) → k < a → get_or t' k 0 ≡ get_or t k 0
  pub mid : (k : ℕ) → a ≤ k → k < n → get_or t' (k + kept_stride) 0 ≡ get_or t k 0
  pub high : (k : ℕ) → n + kept_stride ≤ k → get_or t' k 0 ≡ get_or t k 0

-- 0 from a place up to another; all else is as it was
pub record ZeroIn (from to : ℕ) (t t' : List ℕ) : Type 0 where
  pub zero : (k : ℕ) → from ≤ k → k < to → get_or t' k 0 ≡ 0
  pub low : (k : ℕ) → k < from → get_or t' k 0 ≡ get_or t k 0
  pub high : (k : ℕ) → to ≤ k → get_or t' k 0 ≡ get_or t k 0
