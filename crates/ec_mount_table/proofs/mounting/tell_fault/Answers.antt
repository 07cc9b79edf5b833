use Rattle.std.proofs.Common.{◌≡◌, ◌++◌, IfOk, ℕ, [], subst}
use Rattle.std.specs.Prelude.{Vec}
use Rattle.std.specs.declared.alloc.Global.{Global}
use Rattle.ec_history.specs.declared.shown.Shown.TheVariants as shown
use Rattle.ec_words.specs.OfText.Lines.{shown_text}
use Rattle.ec_clerknode.specs.LaneRuns.{lists_of}
use Rattle.ec_clerknode.specs.declared.fault.NodeFault.TheVariants as fault
use Rattle.ec_mount.specs.Run.{place_in}
use Rattle.ec_mount.specs.Shown.{old_boot_text, peer_text}
use Rattle.ec_mount_table.specs.Shown.{came_text}
use Rattle.ec_mount_table.proofs.Endings.{tells_fault}
use Rattle.ec_mount_table.proofs.mounting.tell_fault.Goals as goal

pub returns-in-Net-clause-told : goal.returns-in-Net-clause-told
returns-in-Net-clause-told g c =
    let a = c.args.answers.now in
    let table = c.args.table.now in
    let rows = c.args.rows.now in
    let came = came_text table rows a.mets.items a.replies.items (lists_of a.told) in
    tells_fault table rows a.mets.items a.replies.items (lists_of a.told) c.write_text.result (g.K.Sink.held c.args.sink.now) (g.K.Sink.held c.write_text.new.sink) (g.K.Sink.faults c.args.sink.now) (g.K.Sink.faults c.write_text.new.sink)
    c.args.fault fault.Net c.in-Net.is
    (c.write_text.ensures.wrote (came ++ []) (c.came_line-text.ensures [] c.new.ensures.items))

pub returns-in-Peer-clause-told : goal.returns-in-Peer-clause-told
returns-in-Peer-clause-told g c =
    let a = c.args.answers.now in
    let table = c.args.table.now in
    let rows = c.args.rows.now in
    let came = came_text table rows a.mets.items a.replies.items (lists_of a.told) in
    let line = peer_text (place_in c.in-Peer.why) in
    let is = subst (λ n. IfOk c.peer_line-line.result (λ (text : Vec ℕ Global). text.items ≡ peer_text n)) c.place_in.ensures c.peer_line-line.ensures in
    tells_fault table rows a.mets.items a.replies.items (lists_of a.told) c.write_text-in-Peer.result (g.K.Sink.held c.args.sink.now) (g.K.Sink.held c.write_text-in-Peer.new.sink) (g.K.Sink.faults c.args.sink.now) (g.K.Sink.faults c.write_text-in-Peer.new.sink)
    c.args.fault (fault.Peer c.in-Peer.why) c.in-Peer.is
    (c.write_text-in-Peer.ensures.wrote (came ++ line) (c.came_line-text-in-Peer.ensures line is))

pub returns-in-Long-clause-told : goal.returns-in-Long-clause-told
returns-in-Long-clause-told g c =
    let a = c.args.answers.now in
    let table = c.args.table.now in
    let rows = c.args.rows.now in
    let came = came_text table rows a.mets.items a.replies.items (lists_of a.told) in
    tells_fault table rows a.mets.items a.replies.items (lists_of a.told) c.write_text-in-Long.result (g.K.Sink.held c.args.sink.now) (g.K.Sink.held c.write_text-in-Long.new.sink) (g.K.Sink.faults c.args.sink.now) (g.K.Sink.faults c.write_text-in-Long.new.sink)
    c.args.fault (fault.Long c.in-Long.field-0) c.in-Long.is
    (c.write_text-in-Long.ensures.wrote (came ++ peer_text 0) (c.came_line-text-in-Long.ensures (peer_text 0) c.peer_line-line-in-Long.ensures))

pub returns-in-OldBoot-clause-told : goal.returns-in-OldBoot-clause-told
returns-in-OldBoot-clause-told g c =
    let a = c.args.answers.now in
    let table = c.args.table.now in
    let rows = c.args.rows.now in
    tells_fault table rows a.mets.items a.replies.items (lists_of a.told) c.write_text-in-OldBoot.result (g.K.Sink.held c.args.sink.now) (g.K.Sink.held c.write_text-in-OldBoot.new.sink) (g.K.Sink.faults c.args.sink.now) (g.K.Sink.faults c.write_text-in-OldBoot.new.sink)
    c.args.fault (fault.OldBoot c.in-OldBoot.age) c.in-OldBoot.is
    (c.write_text-in-OldBoot.ensures.wrote (old_boot_text c.in-OldBoot.age) c.old_boot_line.ensures)

pub returns-in-Spent-clause-told : goal.returns-in-Spent-clause-told
returns-in-Spent-clause-told g c =
    let a = c.args.answers.now in
    let table = c.args.table.now in
    let rows = c.args.rows.now in
    let came = came_text table rows a.mets.items a.replies.items (lists_of a.told) in
    let line = shown_text (shown.Spent c.in-Spent.counter) in
    tells_fault table rows a.mets.items a.replies.items (lists_of a.told) c.write_text-in-Spent.result (g.K.Sink.held c.args.sink.now) (g.K.Sink.held c.write_text-in-Spent.new.sink) (g.K.Sink.faults c.args.sink.now) (g.K.Sink.faults c.write_text-in-Spent.new.sink)
    c.args.fault (fault.Spent c.in-Spent.counter) c.in-Spent.is
    (c.write_text-in-Spent.ensures.wrote (came ++ line) (c.came_line-text-in-Spent.ensures line c.shown_line-line.ensures))
