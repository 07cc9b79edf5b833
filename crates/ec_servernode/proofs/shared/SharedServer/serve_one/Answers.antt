use Rattle.std.proofs.Common.{Ok, Err, inl, sym, ◌∙◌}
use Rattle.ec_lock.specs.PassViews.{first, front}
use Rattle.ec_servernode.specs.Node.{queue_at}
use Rattle.ec_servernode.specs.declared.fault.ServeFault.TheVariants as fault
use Rattle.ec_servernode.specs.declared.shared.Turned.TheVariants as turned
use Rattle.ec_servernode.proofs.Lists.{prefix_self}
use Rattle.ec_servernode.proofs.Served.{none_added, heard_body, heard_none, looked, grows, grows_both}
use Rattle.ec_servernode.proofs.Safe.{runs-safe}
use Rattle.ec_servernode.proofs.shared.SharedServer.serve_one.Goals as goal

pub returns-in-Body-clause-counts : goal.returns-in-Body-clause-counts
returns-in-Body-clause-counts g c = (grows _ _ _ c.recv.ensures.faults, grows _ _ _ c.recv.ensures.closes)

pub returns-in-Body-clause-serves : goal.returns-in-Body-clause-serves
returns-in-Body-clause-serves g c =
    let pass = c.args.pass.now.pass in
    let boxes = queue_at (first c.args.self.now.lock).boxes.items in
    heard_body g.L.Link.faults g.L.Link.closes g.L.Link.given g.L.Link.got g.L.Link.held g.L.Link.clear boxes pass.number c.args.pass.now.caller (front pass) (front c.hear.new.pass.pass) c.args.link.now c.recv.new.self c.in-Body.body.items c.hear.result
    (c.in-Body.ensures.given, c.recv.ensures.got, c.in-Body.ensures.read) c.hear.ensures.hears

pub returns-then-is_clear-clause-counts : goal.returns-then-is_clear-clause-counts
returns-then-is_clear-clause-counts g c = (grows_both _ _ _ _ c.recv.ensures.faults c.give.ensures.counts.0, grows_both _ _ _ _ c.recv.ensures.closes c.give.ensures.counts.1)

pub returns-then-is_clear-clause-serves : goal.returns-then-is_clear-clause-serves
returns-then-is_clear-clause-serves g c =
    let pass = c.args.pass.now.pass in
    let boxes = queue_at (first c.args.self.now.lock).boxes.items in
    heard_none g.L.Link.faults g.L.Link.closes g.L.Link.given g.L.Link.got g.L.Link.held g.L.Link.clear boxes pass.number c.args.pass.now.caller (front pass) (front c.give.new.pass.pass) c.args.link.now c.give.new.link c.recv.new.self
    c.in-Nothing.ensures.given c.in-Nothing.ensures.read c.recv.ensures.got (grows _ _ _ c.recv.ensures.faults) c.give.ensures.given.0 c.give.ensures.given.1 (sym c.is_clear.ensures ∙ c.if-is_clear.true) c.give.result c.give.ensures.gives

pub returns-else-is_clear-clause-counts : goal.returns-else-is_clear-clause-counts
returns-else-is_clear-clause-counts g c = (grows _ _ _ c.recv.ensures.faults, grows _ _ _ c.recv.ensures.closes)

pub returns-else-is_clear-clause-serves : goal.returns-else-is_clear-clause-serves
returns-else-is_clear-clause-serves g c =
    let pass = c.args.pass.now.pass in
    let boxes = queue_at (first c.args.self.now.lock).boxes.items in
    looked g.L.Link.faults g.L.Link.closes g.L.Link.given g.L.Link.got g.L.Link.held g.L.Link.clear boxes pass.number c.args.pass.now.caller (front pass) (front c.unless_down.new.pass.pass) c.args.link.now c.recv.new.self (Ok turned.Busy) c.unless_down.result
    c.recv.ensures.got (λ added none. (added, sym c.is_clear.ensures ∙ c.if-is_clear.false, (c.in-Nothing.ensures.given, c.in-Nothing.ensures.read), c.recv.ensures.got, none)) c.unless_down.ensures.looked

pub returns-in-Long-clause-counts : goal.returns-in-Long-clause-counts
returns-in-Long-clause-counts g c = (grows _ _ _ c.recv.ensures.faults, grows _ _ _ c.recv.ensures.closes)

pub returns-in-Long-clause-serves : goal.returns-in-Long-clause-serves
returns-in-Long-clause-serves g c =
    let pass = c.args.pass.now.pass in
    let boxes = queue_at (first c.args.self.now.lock).boxes.items in
    looked g.L.Link.faults g.L.Link.closes g.L.Link.given g.L.Link.got g.L.Link.held g.L.Link.clear boxes pass.number c.args.pass.now.caller (front pass) (front c.unless_down-in-Long.new.pass.pass) c.args.link.now c.recv.new.self
    (Err (fault.Long c.in-Long.length)) c.unless_down-in-Long.result c.recv.ensures.got (λ added none. (added, c.in-Long.ensures.given, c.recv.ensures.got, none)) c.unless_down-in-Long.ensures.looked

pub returns-in-Closed-clause-counts : goal.returns-in-Closed-clause-counts
returns-in-Closed-clause-counts g c = (grows _ _ _ c.recv.ensures.faults, grows _ _ _ c.recv.ensures.closes)

pub returns-in-Closed-clause-serves : goal.returns-in-Closed-clause-serves
returns-in-Closed-clause-serves g c =
    let pass = c.args.pass.now.pass in
    let boxes = queue_at (first c.args.self.now.lock).boxes.items in
    looked g.L.Link.faults g.L.Link.closes g.L.Link.given g.L.Link.got g.L.Link.held g.L.Link.clear boxes pass.number c.args.pass.now.caller (front pass) (front c.unless_down-in-Closed.new.pass.pass) c.args.link.now c.recv.new.self
    (Ok turned.Closed) c.unless_down-in-Closed.result c.recv.ensures.got (λ added none. (added, c.in-Closed.ensures.closes, c.in-Closed.ensures.given, c.recv.ensures.got, none)) c.unless_down-in-Closed.ensures.looked

pub returns-in-Failed-clause-counts : goal.returns-in-Failed-clause-counts
returns-in-Failed-clause-counts g c = (grows _ _ _ c.recv.ensures.faults, grows _ _ _ c.recv.ensures.closes)

pub returns-in-Failed-clause-serves : goal.returns-in-Failed-clause-serves
returns-in-Failed-clause-serves g c =
    let pass = c.args.pass.now.pass in
    let boxes = queue_at (first c.args.self.now.lock).boxes.items in
    looked g.L.Link.faults g.L.Link.closes g.L.Link.given g.L.Link.got g.L.Link.held g.L.Link.clear boxes pass.number c.args.pass.now.caller (front pass) (front c.unless_down-in-Failed.new.pass.pass) c.args.link.now c.recv.new.self
    (Err fault.Net) c.unless_down-in-Failed.result c.recv.ensures.got (λ added none. (added, c.in-Failed.ensures.faults, c.recv.ensures.got, inl (c.in-Failed.ensures.given, c.in-Failed.ensures.read), none)) c.unless_down-in-Failed.ensures.looked

pub returns-in-NoMemory-clause-later : goal.returns-in-NoMemory-clause-later
returns-in-NoMemory-clause-later g c = prefix_self (front c.args.pass.now.pass)

pub returns-in-NoMemory-clause-counts : goal.returns-in-NoMemory-clause-counts
returns-in-NoMemory-clause-counts g c = (grows _ _ _ c.recv.ensures.faults, grows _ _ _ c.recv.ensures.closes)

pub returns-in-NoMemory-clause-serves : goal.returns-in-NoMemory-clause-serves
returns-in-NoMemory-clause-serves g c = (inl (none_added c.args.pass.now.pass.number (front c.args.pass.now.pass)), c.recv.ensures.got)

pub returns-in-Body-clause-safe : goal.returns-in-Body-clause-safe
returns-in-Body-clause-safe g c = runs-safe g.K.Keeper.kept (first c.args.self.now.lock) (front c.hear.new.pass.pass) c.hear.ensures.pass.run

pub returns-then-is_clear-clause-safe : goal.returns-then-is_clear-clause-safe
returns-then-is_clear-clause-safe g c = runs-safe g.K.Keeper.kept (first c.args.self.now.lock) (front c.give.new.pass.pass) c.give.ensures.pass.run

pub returns-else-is_clear-clause-safe : goal.returns-else-is_clear-clause-safe
returns-else-is_clear-clause-safe g c = runs-safe g.K.Keeper.kept (first c.args.self.now.lock) (front c.unless_down.new.pass.pass) c.unless_down.ensures.pass.run

pub returns-in-Long-clause-safe : goal.returns-in-Long-clause-safe
returns-in-Long-clause-safe g c = runs-safe g.K.Keeper.kept (first c.args.self.now.lock) (front c.unless_down-in-Long.new.pass.pass) c.unless_down-in-Long.ensures.pass.run

pub returns-in-Closed-clause-safe : goal.returns-in-Closed-clause-safe
returns-in-Closed-clause-safe g c = runs-safe g.K.Keeper.kept (first c.args.self.now.lock) (front c.unless_down-in-Closed.new.pass.pass) c.unless_down-in-Closed.ensures.pass.run

pub returns-in-Failed-clause-safe : goal.returns-in-Failed-clause-safe
returns-in-Failed-clause-safe g c = runs-safe g.K.Keeper.kept (first c.args.self.now.lock) (front c.unless_down-in-Failed.new.pass.pass) c.unless_down-in-Failed.ensures.pass.run

pub returns-in-NoMemory-clause-safe : goal.returns-in-NoMemory-clause-safe
returns-in-NoMemory-clause-safe g c = runs-safe g.K.Keeper.kept (first c.args.self.now.lock) (front c.args.pass.now.pass) c.requires.pass.run
