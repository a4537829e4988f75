-- What a part of a pattern carries: the sets of document 01, "The table", as the code holds them.
-- Assumes nothing.
use Rattle.std.specs.Prelude.{ℕ, suc, true, cond, ◌||◌, ◌&&◌, List, get_or}
use Rattle.std.specs.Int.Bits.{bit_or}
use Rattle.document.specs.Lists.{tabulate}
use Rattle.document.specs.Limits.{most_events, most_names}
use Rattle.document.specs.Patterns.{Pattern}
use Rattle.document.specs.Positions.{holds, nullable, firsts, lasts, follows, named}
use Rattle.sets.specs.declared.Shape.{Shape}

-- the shape of a pattern
unfoldable pub shape_of : Pattern → Shape
shape_of r = record {
  null = nullable r;
  first = firsts r;
  last = lasts r;
  follow = tabulate (suc most_names) (follows r);
  named = tabulate most_events (named r);
}

-- n sets joined with n others
unfoldable pub merge_of : ℕ → List ℕ → List ℕ → List ℕ
merge_of n a b = tabulate n (λ k. bit_or (get_or a k 0) (get_or b k 0))

-- the numbers of `first` joined to the sets of the numbers of `last`
unfoldable pub link_of : List ℕ → ℕ → ℕ → List ℕ
link_of a last first = tabulate (suc most_names) (λ k. bit_or (get_or a k 0) (cond (holds last k) first 0))

-- the shapes of patterns made of others, from their shapes
unfoldable pub either_shape : Shape → Shape → Shape
either_shape a b = record {
  null = a.null || b.null;
  first = bit_or a.first b.first;
  last = bit_or a.last b.last;
  follow = merge_of (suc most_names) a.follow b.follow;
  named = merge_of most_events a.named b.named;
}

unfoldable pub then_shape : Shape → Shape → Shape
then_shape a b = record {
  null = a.null && b.null;
  first = cond a.null (bit_or a.first b.first) a.first;
  last = cond b.null (bit_or a.last b.last) b.last;
  follow = link_of (merge_of (suc most_names) a.follow b.follow) a.last b.first;
  named = merge_of most_events a.named b.named;
}

unfoldable pub star_shape : Shape → Shape
star_shape a = record {
  null = true;
  first = a.first;
  last = a.last;
  follow = link_of a.follow a.last a.first;
  named = a.named;
}

unfoldable pub plus_shape : Shape → Shape
plus_shape a = record {
  null = a.null;
  first = a.first;
  last = a.last;
  follow = link_of a.follow a.last a.first;
  named = a.named;
}
