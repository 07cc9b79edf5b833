use Rattle.std.proofs.Common.{rules, arith, ℕ, IsOk, List, cond, None, ap, sym, subst, inl, inr, ◌∙◌}
use Rattle.std.specs.Prelude.{IsErrOf}
use Rattle.ec_base.specs.Tables.{at}
use Rattle.ec_volume.specs.Update.{member}
use Rattle.ec_durable.specs.CodeLaws.{sound_steps}
use Rattle.ec_durable.proofs.Kept.{below_kept, step_kept}
use Rattle.ec_store.specs.Places.{ArePlaces}
use Rattle.ec_journal.specs.Ends.{stops_within}
use Rattle.ec_journal.proofs.OfLayout.Calls.{turns_none, turns_within}
use Rattle.ec_stands.specs.Stands.{StandsFor}
use Rattle.ec_store.specs.Store.{StoreHolds, StandsForEither}
use Rattle.ec_store.specs.declared.fault.StoreFault.TheVariants as fault
use Rattle.ec_store.proofs.Members.{left_kept}
use Rattle.ec_store.proofs.Images.{step_most}
use Rattle.ec_store.proofs.Holding.{leaves_none, held_stands, held_lies, append_leaves, append_given, append_holds, fewer_places, still_formed}
use Rattle.ec_store.proofs.Trying.{left_is}
use Rattle.ec_store.proofs.store.Store.add.Goals as goal

pub step-requires-clause-sound : goal.step-requires-clause-sound
step-requires-clause-sound g c = sound_steps c.args.change.now c.requires.sound

pub step-requires-clause-below : goal.step-requires-clause-below
step-requires-clause-below g c = below_kept c.args.self.now.state c.args.self.now.order

pub returns-in_err-step-clause-any_moment : goal.returns-in_err-step-clause-any_moment
returns-in_err-step-clause-any_moment g c told held =
    let s = c.args.self.now in
    leaves_none (StandsForEither c.args.change.now s.state) (g.D.Disk.view c.args.disk.now) (λ image left. g.met.D.Disk.only_now told c.args.disk.now image left)
    (λ image left. inl (held_stands (g.D.Disk.view c.args.disk.now) s.selected s.named.items s.kept s.state held image left))

pub invariant_of-self-in-Break-branch-2 : goal.invariant_of-self-in-Break-branch-2
invariant_of-self-in-Break-branch-2 g c =
    let s = c.args.self.now in
    let sound = sound_steps c.args.change.now c.requires.sound in
    record {
      formed = still_formed c.args.change.now s.state c.step.new.state s.order s.formed sound c.in_ok-step.ensures.ok;
      order = step_kept c.args.change.now s.state c.step.new.state s.order sound c.in_ok-step.ensures.ok;
      places = subst (λ m. ArePlaces m s.named.items s.kept) (sym (step_most c.args.change.now s.state c.step.new.state c.in_ok-step.ensures.ok)) s.places;
    }

pub returns-in_err-append-clause-any_moment : goal.returns-in_err-append-clause-any_moment
returns-in_err-append-clause-any_moment g c told held =
    let s = c.args.self.now in
    append_leaves c.args.change.now c.args.entry.now c.requires.fits c.requires.spelled (sound_steps c.args.change.now c.requires.sound) s.state c.step.new.state c.in_ok-step.ensures.ok (g.D.Disk.view c.args.disk.now) (g.D.Disk.view c.append.new.disk) s.selected s.named.items s.kept held (c.append.ensures.any_moment told)

pub invariant_of-self-2 : goal.invariant_of-self-2
invariant_of-self-2 g c =
    let s = c.args.self.now in
    let sound = sound_steps c.args.change.now c.requires.sound in
    record {
      formed = still_formed c.args.change.now s.state c.step.new.state s.order s.formed sound c.in_ok-step.ensures.ok;
      order = step_kept c.args.change.now s.state c.step.new.state s.order sound c.in_ok-step.ensures.ok;
      places = subst (λ m. ArePlaces m s.named.items c.forget.new.kept) (sym (step_most c.args.change.now s.state c.step.new.state c.in_ok-step.ensures.ok))
          (fewer_places s.state.max_objects s.named.items s.kept c.forget.new.kept s.places (λ o slot found. (left_kept o slot (member o c.args.ids.now) (at o c.forget.new.kept) (at o s.kept) (c.forget.ensures o) found).0));
    }

pub returns-clause-ok : goal.returns-clause-ok
returns-clause-ok g c told held =
    let s = c.args.self.now in
    append_holds c.args.change.now c.args.entry.now c.requires.fits c.requires.spelled (sound_steps c.args.change.now c.requires.sound) s.state c.step.new.state c.in_ok-step.ensures.ok (g.D.Disk.view c.args.disk.now) (g.D.Disk.view c.append.new.disk) s.selected s.named.items s.kept held c.append.new.selected c.forget.new.kept (c.in_ok-append.ensures.ok told)
    (λ o. c.forget.ensures o ∙ ap (λ (l : List ℕ). cond (member o l) None (at o s.kept)) c.requires.ids)

pub returns-clause-any_moment : goal.returns-clause-any_moment
returns-clause-any_moment g c told held =
    let s = c.args.self.now in
    append_leaves c.args.change.now c.args.entry.now c.requires.fits c.requires.spelled (sound_steps c.args.change.now c.requires.sound) s.state c.step.new.state c.in_ok-step.ensures.ok (g.D.Disk.view c.args.disk.now) (g.D.Disk.view c.append.new.disk) s.selected s.named.items s.kept held (c.append.ensures.any_moment told)

pub invariant_of-self : goal.invariant_of-self
invariant_of-self g c =
    let s = c.args.self.now in
    let is = left_is s.named.items s.kept s.state c.step.new.state (s.formed, s.order, s.places) c.in_err-step.ensures.err in
    record { formed = is.0; order = is.1; places = is.2 }

pub returns-in_err-step-clause-turned : goal.returns-in_err-step-clause-turned
returns-in_err-step-clause-turned g c =
    let a = (g.D.Disk.counts c.args.disk.now).armed in
    turns_within 0 4 a a (Unit {0}) _ ⊥ _ (omega arith) (turns_none a (Unit {0})) (λ h. search rules) (λ t. search rules)

pub returns-in_err-step-clause-old : goal.returns-in_err-step-clause-old
returns-in_err-step-clause-old g c =
    let s = c.args.self.now in
    let now = g.D.Disk.view c.args.disk.now in
    let stands : g.D.Disk.tells → StoreHolds now s.selected s.named.items s.kept s.state → StandsFor now.synced s.state = λ told held. held_stands now s.selected s.named.items s.kept s.state held now.synced (g.met.D.Disk.given_synced told c.args.disk.now) in
    search (rules, stands)

pub returns-in_err-append-clause-no_memory : goal.returns-in_err-append-clause-no_memory
returns-in_err-append-clause-no_memory g c is =
    let same : IsErrOf c.append.result fault.NoMemory = search rules in
    inr (4, c.append.ensures.no_memory same)

pub returns-in_err-append-clause-old : goal.returns-in_err-append-clause-old
returns-in_err-append-clause-old g c =
    let s = c.args.self.now in
    let now = g.D.Disk.view c.args.disk.now in
    let new = g.D.Disk.view c.append.new.disk in
    let stands : g.D.Disk.tells → StoreHolds now s.selected s.named.items s.kept s.state → StandsFor new.synced s.state = λ told held. held_lies now s.selected s.named.items s.kept s.state held new.synced (λ l on. c.in_err-append.ensures.old told l on) in
    search (rules, stands)

pub returns-in_err-append-clause-halves : goal.returns-in_err-append-clause-halves
returns-in_err-append-clause-halves g c is told held turn armed =
    let s = c.args.self.now in
    let now = g.D.Disk.view c.args.disk.now in
    let new = g.D.Disk.view c.append.new.disk in
    let stopped : IsErrOf c.append.result fault.DiskStopped = search rules in
    let way = c.append.ensures.halves stopped told turn armed in (
      stops_within 4 turn (g.D.Disk.counts c.args.disk.now).armed (g.D.Disk.counts c.append.new.disk).armed (IsOk c.append.result) (IsErrOf c.append.result fault.DiskStopped) c.append.ensures.turned stopped armed,
      record {
        early = λ first image left. held_lies now s.selected s.named.items s.kept s.state held image (λ l on. (way l on).early (omega (arith, first)) image left);
        late = λ last e stepped.
            append_given c.args.change.now c.args.entry.now c.requires.fits c.requires.spelled (sound_steps c.args.change.now c.requires.sound) s.state e stepped now new s.selected s.named.items s.kept held new.gives (λ l on. (way l on).late (omega (arith, last)));
      },
    )
