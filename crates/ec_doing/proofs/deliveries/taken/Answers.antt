use Rattle.std.proofs.Common.{◌≡◌, sym, ap, subst, ◌∙◌, List, OnOk}
use Rattle.std.proofs.lemmas.Bool.{leb-true}
use Rattle.ec_sessions.specs.Limits.{last_first_id}
use Rattle.ec_wire.specs.Messages.{is_sound}
use Rattle.ec_protocol.specs.declared.clerk.Waiting.{Waiting}
use Rattle.ec_protocol.specs.Clerk as clerk
use Rattle.ec_doing.specs.Seen.{doing_of}
use Rattle.ec_doing.proofs.Steps.{on_ok, by_message, grant_within}
use Rattle.ec_doing.proofs.deliveries.taken.Goals as goal

pub granted-requires : goal.granted-requires
granted-requires c = grant_within c.in-Grant.session c.in-Grant.epoch c.in-Grant.obj c.in-Grant.number c.in-Grant.hold c.in-Grant.image (sym (ap is_sound c.in-Grant.is) ∙ c.requires)

pub ids_came-requires : goal.ids_came-requires
ids_came-requires c = leb-true c.in-Ids.first last_first_id (sym (ap is_sound c.in-Ids.is) ∙ c.requires)

pub returns-in-Opened : goal.returns-in-Opened
returns-in-Opened c =
    let ws = c.args.waiting.now.items in
    on_ok c.take_opened.result (λ p. by_message c.args.msg _ (doing_of ws c.args.doing.now) (doing_of ws c.take_opened.new.self) c.in-Opened.is (p ws)) c.take_opened.ensures

pub returns-in-Grant : goal.returns-in-Grant
returns-in-Grant c =
    let ws = c.args.waiting.now.items in
    on_ok c.granted.result (λ p. by_message c.args.msg _ (doing_of ws c.args.doing.now) (doing_of ws c.granted.new.self) c.in-Grant.is (p ws)) c.granted.ensures

pub returns-in-Recall : goal.returns-in-Recall
returns-in-Recall c =
    let ws = c.args.waiting.now.items in
    on_ok c.recalled.result (λ p. by_message c.args.msg _ (doing_of ws c.args.doing.now) (doing_of ws c.recalled.new.self) c.in-Recall.is (p ws)) c.recalled.ensures

pub returns-in-Ids : goal.returns-in-Ids
returns-in-Ids c =
    let ws = c.args.waiting.now.items in
    on_ok c.ids_came.result (λ p. by_message c.args.msg _ (doing_of ws c.args.doing.now) (doing_of ws c.ids_came.new.self) c.in-Ids.is (p ws)) c.ids_came.ensures

pub returns-in-NoRoom : goal.returns-in-NoRoom
returns-in-NoRoom c =
    let ws = c.args.waiting.now.items in
    on_ok c.take_no_room.result (λ p. by_message c.args.msg _ (doing_of ws c.args.doing.now) (doing_of c.take_no_room.new.waiting.items c.take_no_room.new.doing) c.in-NoRoom.is (p)) c.take_no_room.ensures

pub returns-in-Ended : goal.returns-in-Ended
returns-in-Ended c =
    let ws = c.args.waiting.now.items in
    on_ok c.ended.result (λ p. by_message c.args.msg _ (doing_of ws c.args.doing.now) (doing_of ws c.ended.new.self) c.in-Ended.is (p ws)) c.ended.ensures

pub returns-in-Restarted : goal.returns-in-Restarted
returns-in-Restarted c =
    let ws = c.args.waiting.now.items in
    on_ok c.restarted.result (λ p. by_message c.args.msg _ (doing_of ws c.args.doing.now) (doing_of ws c.restarted.new.self) c.in-Restarted.is p) (subst (λ (us : List Waiting). OnOk c.restarted.result (clerk.or_hello c.in-Restarted.session (clerk.take_restarted c.in-Restarted.epoch) (doing_of us c.args.doing.now) ≡ doing_of us c.restarted.new.self)) c.deref.ensures.value c.restarted.ensures)

pub returns-in-OldBoot : goal.returns-in-OldBoot
returns-in-OldBoot c =
    let ws = c.args.waiting.now.items in
    on_ok c.take_old_boot.result (λ p. by_message c.args.msg _ (doing_of ws c.args.doing.now) (doing_of ws c.take_old_boot.new.self) c.in-OldBoot.is (p ws)) c.take_old_boot.ensures

pub returns-in-Kept : goal.returns-in-Kept
returns-in-Kept c =
    let ws = c.args.waiting.now.items in
    by_message c.args.msg _ (doing_of ws c.args.doing.now) (doing_of ws c.kept.new.self) c.in-Kept.is (c.kept.ensures ws)
