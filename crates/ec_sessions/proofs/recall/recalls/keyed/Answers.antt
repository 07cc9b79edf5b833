use Rattle.std.proofs.Common.{◌≡◌, ap, sym, ◌∙◌, ◌++◌, ◌∷◌}
use Rattle.std.specs.Map.{values_of}
use Rattle.std.specs.Vec.Iter.{into_iter_items}
use Rattle.indexmap.proofs.CallerLemmas.{insert_entry-new}
use Rattle.ec_sessions.specs.OfRecall.Keys.{same_key}
use Rattle.ec_sessions.proofs.OfRecall.KeyLemmas.{keyed_more}
use Rattle.ec_sessions.proofs.recall.recalls.keyed.Goals as goal

pub loop-want-preserved-in_ok-insert : goal.loop-want-preserved-in_ok-insert
loop-want-preserved-in_ok-insert c =
    let step : values_of c.loop-want.map.entries ++ c.in-Some.want ∷ into_iter_items c.next.new.self ≡ c.args.wants.items =
    ap (λ l. values_of c.loop-want.map.entries ++ l) (sym c.in-Some.ensures.steps.0) ∙ c.loop-want.invariant.wants in
    let now = keyed_more c.loop-want.map.entries c.insert.new.self.entries c.key_of-key.result c.in-Some.want (into_iter_items c.next.new.self) c.args.wants.items c.loop-want.invariant.keyed c.requires
    step c.key_of-key.ensures (λ none. c.in_ok-insert.ensures.entries ∙ insert_entry-new same_key c.loop-want.map c.key_of-key.result c.in-Some.want none) in
    record { wants = now.0; keyed = now.1; unique = c.in_ok-insert.ensures.unique }

pub loop-want-preserved : goal.loop-want-preserved
loop-want-preserved c =
    let step : values_of c.loop-want.map.entries ++ c.in-Some.want ∷ into_iter_items c.next.new.self ≡ c.args.wants.items =
    ap (λ l. values_of c.loop-want.map.entries ++ l) (sym c.in-Some.ensures.steps.0) ∙ c.loop-want.invariant.wants in
    let now = keyed_more c.loop-want.map.entries c.insert.new.self.entries c.key_of-key.result c.in-Some.want (into_iter_items c.next.new.self) c.args.wants.items c.loop-want.invariant.keyed c.requires
    step c.key_of-key.ensures (λ none. c.in_ok-insert.ensures.entries ∙ insert_entry-new same_key c.loop-want.map c.key_of-key.result c.in-Some.want none) in
    record { wants = now.0; keyed = now.1; unique = c.in_ok-insert.ensures.unique }
