use Rattle.std.proofs.Common.{◌≡◌, Some, length, vec_capacity}
use Rattle.std.specs.Prelude.{All}
use Rattle.serde_json.specs.View.{view}
use Rattle.sc_forms.specs.Forms.{all_of}
use Rattle.sc_forms.proofs.lists.take_items.Given as goal

abbrev pub invariant-loop-item : goal.invariant-loop-item
invariant-loop-item g l = record {
  read : all_of (λ x. g.F.Form.reads l.form (view x)) l.yielded ≡ Some l.taken.items;
  fits : All (g.F.Form.fits l.form) l.taken.items;
  count : length l.taken.items ≡ length l.yielded;
  room : vec_capacity l.taken ≡ length l.fn.items.items;
}
