use Rattle.std.proofs.Common.{◌≡◌, ◌<◌, length, suc, Some, Ok, ap, sym, ◌∙◌}
use Rattle.std.specs.Prelude.{slice_get}
use Rattle.std.proofs.lemmas.Bool.{leb-true}
use Rattle.std.proofs.lemmas.Option.{get_or_from_slice_get, slice_get-get_or}
use Rattle.ec_base.specs.SortedLaws.{searched}
use Rattle.ec_base.proofs.sorted.slot_near.Goals as goal

pub returns-in-Equal : goal.returns-in-Equal
returns-in-Equal g c =
    let key = c.args.key.now in
    let items = c.args.items.now in
    let near = c.args.near in
    let pair = c.in-Some.field-0.now in
    let within : near < length items = leb-true (suc near) (length items) (sym c.in-Some.ensures.lookup.0) in
    let got : slice_get items near ≡ Some pair = slice_get-get_or items near pair within ∙ ap Some (sym c.in-Some.ensures.lookup.1) in
    searched g.K.Ord.cmp g.met.K.Ord.total key items (Ok near) c.requires within
    (λ other. ap (λ e. g.K.Ord.cmp e.0 key) (get_or_from_slice_get items near pair other got) ∙ sym c.in-Equal.ensures)
