-- What the loop of `lineparts::put_values` keeps: the values before the one reached stand.
use Rattle.std.proofs.Common.{◌*◌, ◌≡◌, length, take}
use Rattle.decimals.specs.Written.{Written}
use Rattle.lineparts.specs.Lines.{values_text, most_value}
use Rattle.lineparts.proofs.put_values.Given as goal

abbrev pub invariant-loop-x : goal.invariant-loop-x
invariant-loop-x l = record {
  length_kept : length l.text ≡ length l.initial.text;
  written : Written l.at (l.x-index * most_value) (values_text (take l.x-index l.values)) l.initial.text l.text l.next;
}
