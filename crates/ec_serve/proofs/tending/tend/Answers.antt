use Rattle.std.proofs.Common.{length, refl, sym, ap, ◌∙◌, subst}
use Rattle.ec_link.specs.Spawns.{faults_of}
use Rattle.ec_lock.specs.PassViews.{front, numbers}
use Rattle.ec_serve.specs.OfThreads.ServingMoments.{back_of, moment}
use Rattle.ec_serve.specs.Serve.{Outer}
use Rattle.ec_serve.specs.ServerRuns.{Tends, tended_of}
use Rattle.ec_serve.proofs.OfThreads.Goes.{no_fault}
use Rattle.ec_serve.proofs.Tends.{Tended, outer, tends, tends_before, later_by}
use Rattle.ec_serve.proofs.tending.tend.Goals as goal

pub returns-clause-later : goal.returns-clause-later
returns-clause-later g c =
    let faults = g.N.Net.faults in
    let ran = c.run_all-ran.ensures in
    let ran_so = c.run_all-ran.result in
    let last = c.run_all-ran.new.net in
    let net = c.open.new.net in
    (later_by (faults c.args.net.now) (faults net) (faults last) (faults_of c.args.spawner.now) (faults_of c.run_all-ran.new.spawner) _ (no_fault (faults c.args.net.now) (faults net) _ c.open.ensures.faults) ran.goes.counts ran.faults)

pub returns-clause-tends : goal.returns-clause-tends
returns-clause-tends g c =
    let faults = g.N.Net.faults in
    let bad = g.N.Net.bad in
    let ended = g.N.Net.ended in
    let back = back_of g.N.Link.Link.faults g.N.Link.Link.closes g.N.Link.Link.given g.N.Link.Link.got in
    let ran = c.run_all-ran.ensures in
    let spawned = c.run_all-ran.result.spawned in
    let ran_so = c.run_all-ran.result in
    let last = c.run_all-ran.new.net in
    let net = c.open.new.net in
    let starts = faults_of c.args.spawner.now in
    let later = faults_of c.run_all-ran.new.spawner in
    let pass = c.run_all-ran.new.pass.pass in
    let fresh = c.new-3.ensures in
    let first = moment net c.new-3.result c.args.pass.now.pass in
    let final = moment last ran_so.tally.value pass in
    let opened = c.open.ensures in
    let old : Outer = record { faults = faults c.args.net.now; bad = bad c.args.net.now; ended = ended c.args.net.now; starts = starts } in
    let t : Tended faults bad ended back first final c.args.to.count spawned starts later =
    record { goes = ran.goes; left = fresh.links.0; begun = ap length fresh.links.1; back = fresh.links.2; failed = fresh.fine.0; each = λ all. (ran.each all).0; over = λ all. (ran.each all).1; spawns = ran.faults } in
    let all = tends_before c.args.to.count (tended_of spawned final.failed final.wants) (numbers pass) (front pass) old (outer faults bad ended back starts net) (outer faults bad ended back later last) (no_fault (faults c.args.net.now) (faults net) _ opened.faults) opened.same.0 opened.same.1 refl
    (tends faults bad ended back first final c.args.to.count spawned starts later t) in
    let same = ap (λ b. tended_of spawned b ran_so.wants) ran.values.0 ∙ ap (λ b. tended_of spawned final.failed b) ran.values.1 in
    subst (λ r. Tends c.args.to.count r (numbers pass) (front pass) old (outer faults bad ended back later last)) (sym (c.tended_of.ensures ∙ same)) all
