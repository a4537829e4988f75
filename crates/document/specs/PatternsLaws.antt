-- Any number of words of P, one after another: some and then some more, and one alone.
-- Assumes nothing.
use Rattle.std.specs.Prelude.{ℕ, List, ◌++◌}
use Rattle.std.proofs.Common.{sym, subst, append_assoc, append-nil}
use Rattle.document.specs.Patterns.{Many, none, more}

pub many_append : (P : List ℕ → Type 0) (u v : List ℕ) → Many P u → Many P v → Many P (u ++ v)
many_append P u v none n = n
many_append P u v (more {u = a} {v = b} x m) n = subst (Many P) (sym (append_assoc a b v)) (more x (many_append P b v m n))

pub many-one : (P : List ℕ → Type 0) (w : List ℕ) → P w → Many P w
many-one P w x = subst (Many P) (append-nil w) (more x none)
