use Rattle.std.proofs.Common.{◌≡◌, IfOk, ℕ, Ok, Err, subst}
use Rattle.std.specs.Prelude.{Vec}
use Rattle.std.specs.declared.alloc.Global.{Global}
use Rattle.ec_clerknode.specs.LaneRuns.{lists_of}
use Rattle.ec_mount_table.specs.Shown.{mounts_text}
use Rattle.ec_mount_table.proofs.Endings.{tells_as}
use Rattle.ec_mount_table.proofs.mounting.tell.Goals as goal

pub returns-in-Ok-clause-told : goal.returns-in-Ok-clause-told
returns-in-Ok-clause-told g c =
    let a = c.args.answers.now in
    let table = c.args.table.now in
    let rows = c.args.rows.now in
    let lasts = c.in-Ok.lasts in
    tells_as table rows a.mets.items a.replies.items (lists_of a.told) c.write_text.result (g.K.Sink.held c.args.sink.now) (g.K.Sink.held c.write_text.new.sink) (g.K.Sink.faults c.args.sink.now) (g.K.Sink.faults c.write_text.new.sink)
    a.last (Ok lasts) c.in-Ok.is
    (c.write_text.ensures.wrote (mounts_text table rows a.mets.items (lists_of a.told) lasts.items)
    (subst (λ l. IfOk c.whole_text-text.result (λ (text : Vec ℕ Global). text.items ≡ mounts_text table rows a.mets.items (lists_of a.told) l)) c.deref.ensures.value c.whole_text-text.ensures))

pub returns-in-Err-clause-told : goal.returns-in-Err-clause-told
returns-in-Err-clause-told g c =
    let a = c.args.answers.now in
    tells_as c.args.table.now c.args.rows.now a.mets.items a.replies.items (lists_of a.told) c.tell_fault.result (g.K.Sink.held c.args.sink.now) (g.K.Sink.held c.tell_fault.new.sink) (g.K.Sink.faults c.args.sink.now) (g.K.Sink.faults c.tell_fault.new.sink)
    a.last (Err c.in-Err.fault) c.in-Err.is c.tell_fault.ensures.told
