use Rattle.std.proofs.Common.{◌≡◌, Some, take, length, vec_capacity}
use Rattle.std.specs.Prelude.{All}
use Rattle.serde_json.specs.View.{view}
use Rattle.sc_forms.specs.Forms.{all_of}
use Rattle.sc_forms.proofs.lists.read_items.Given as goal

abbrev pub invariant-loop-item : goal.invariant-loop-item
invariant-loop-item g l = record {
  read : all_of (λ x. g.F.Form.reads l.form (view x)) (take l.item-index l.items) ≡ Some l.found.items;
  fits : All (g.F.Form.fits l.form) l.found.items;
  count : length l.found.items ≡ l.item-index;
  room : vec_capacity l.found ≡ length l.items;
}
