use Rattle.std.proofs.Common.{rules, arith, ◌≡◌, ◌+◌, ◌-◌, ◌≤◌, Option, ℕ, List, length, cond, false, None, Some, ap, sym, subst, inl, inr, ◌∙◌, ◌*◌, IsOk, IsErrOf}
use Rattle.ec_disk.specs.declared.disk.DiskAnswer.TheVariants as said
use Rattle.ec_journal.specs.Ends.{EndsBy, ends_later, stops_behind, stops_within, turns_for}
use Rattle.ec_journal.proofs.OfLayout.Calls.{turns_none, turns_within, turns_then}
use Rattle.ec_stands.specs.Stands.{StandsFor}
use Rattle.ec_store.specs.declared.fault.StoreFault.TheVariants as fault
use Rattle.ec_base.specs.Tables.{at}
use Rattle.ec_disk.specs.Disk.{after_calls}
use Rattle.ec_disk.specs.Runs.{leaves_then}
use Rattle.ec_volume.specs.Update.{member}
use Rattle.ec_durable.specs.CodeLaws.{sound_steps}
use Rattle.ec_durable.proofs.Kept.{below_kept, step_kept}
use Rattle.ec_stands.specs.declared.table.table.Version.TheVariants.{Two}
use Rattle.ec_journal.specs.OfLayout.Free.{free_below}
use Rattle.ec_journal.specs.OfLayout.Layout.{Follows}
use Rattle.ec_journal.specs.OfLayout.Pieces.{AreApart, pieces_of}
use Rattle.ec_journal.specs.OfLayout.Sides.{other}
use Rattle.ec_journal.specs.OfLayout.Selected.{side_now}
use Rattle.ec_store.specs.Places.{ArePlaces}
use Rattle.ec_store.specs.Store.{StoreHolds, StandsForEither}
use Rattle.ec_store.proofs.Members.{left_kept, keeps_left}
use Rattle.ec_store.proofs.Images.{step_most}
use Rattle.ec_store.proofs.Placing.{placed_keeps}
use Rattle.ec_store.proofs.Holding.{leaves_none, held_stands, held_lies, append_leaves, append_given, append_holds, fewer_places, still_formed}
use Rattle.ec_store.proofs.Planning.{pieces_stand_apart, new_places_are, plan_leaves, plan_leaves_either, plan_lies, plan_holds}
use Rattle.ec_store.proofs.Trying.{left_is}
use Rattle.ec_store.proofs.store.Store.turn_and_add.Goals as goal

pub step-requires-clause-sound : goal.step-requires-clause-sound
step-requires-clause-sound g c =
    sound_steps c.args.change.now c.requires.sound

pub step-requires-clause-below : goal.step-requires-clause-below
step-requires-clause-below g c =
    below_kept c.args.self.now.state c.args.self.now.order

pub returns-in-Err-clause-any_moment : goal.returns-in-Err-clause-any_moment
returns-in-Err-clause-any_moment g c told held =
    let s = c.args.self.now in
    leaves_none (StandsForEither c.args.change.now s.state) (g.D.Disk.view c.args.disk.now) (λ image left. g.met.D.Disk.only_now told c.args.disk.now image left)
    (λ image left. inl (held_stands (g.D.Disk.view c.args.disk.now) s.selected s.named.items s.kept s.state held image left))

pub checkpoint-turned-requires-clause-apart : goal.checkpoint-turned-requires-clause-apart
checkpoint-turned-requires-clause-apart g c =
    let s = c.args.self.now in
    let p = c.requires.plan in
    let fewer : (o slot : ℕ) → at o p.kept ≡ Some slot → at o s.kept ≡ Some slot = λ o slot found. (left_kept o slot (member o c.args.ids.now) (at o p.kept) (at o s.kept) (p.left o) found).0 in
    let are = fewer_places s.state.max_objects s.named.items s.kept p.kept s.places fewer in
    subst (λ ps. AreApart (pieces_of ps)) (sym c.as_slice.ensures.value) (pieces_stand_apart s.state s.named.items p.kept s.order are c.args.plan p.is)

pub invariant_of-self-in-Err-done : goal.invariant_of-self-in-Err-done
invariant_of-self-in-Err-done g c =
    let s = c.args.self.now in
    let sound = sound_steps c.args.change.now c.requires.sound in
    record {
      formed = still_formed c.args.change.now s.state c.step.new.state s.order s.formed sound c.in_default.ensures.ok;
      order = step_kept c.args.change.now s.state c.step.new.state s.order sound c.in_default.ensures.ok;
      places = subst (λ m. ArePlaces m s.named.items s.kept) (sym (step_most c.args.change.now s.state c.step.new.state c.in_default.ensures.ok)) s.places;
    }

pub invariant_of-self-in-Break-1 : goal.invariant_of-self-in-Break-1
invariant_of-self-in-Break-1 g c =
    let s = c.args.self.now in
    let p = c.requires.plan in
    let sound = sound_steps c.args.change.now c.requires.sound in
    let fewer : (o slot : ℕ) → at o p.kept ≡ Some slot → at o s.kept ≡ Some slot = λ o slot found. (left_kept o slot (member o c.args.ids.now) (at o p.kept) (at o s.kept) (p.left o) found).0 in
    let are = fewer_places s.state.max_objects s.named.items s.kept p.kept s.places fewer in
    record {
      formed = still_formed c.args.change.now s.state c.step.new.state s.order s.formed sound c.in_default.ensures.ok;
      order = step_kept c.args.change.now s.state c.step.new.state s.order sound c.in_default.ensures.ok;
      places = subst (λ m. ArePlaces m c.args.plan.named.items c.args.plan.kept) (sym (step_most c.args.change.now s.state c.step.new.state c.in_default.ensures.ok)) (new_places_are s.state s.named.items p.kept s.order are c.args.plan p.is);
    }

pub invariant_of-self-2 : goal.invariant_of-self-2
invariant_of-self-2 g c =
    let s = c.args.self.now in
    let p = c.requires.plan in
    let sound = sound_steps c.args.change.now c.requires.sound in
    let fewer : (o slot : ℕ) → at o p.kept ≡ Some slot → at o s.kept ≡ Some slot = λ o slot found. (left_kept o slot (member o c.args.ids.now) (at o p.kept) (at o s.kept) (p.left o) found).0 in
    let are = fewer_places s.state.max_objects s.named.items s.kept p.kept s.places fewer in
    record {
      formed = still_formed c.args.change.now s.state c.step.new.state s.order s.formed sound c.in_default.ensures.ok;
      order = step_kept c.args.change.now s.state c.step.new.state s.order sound c.in_default.ensures.ok;
      places = subst (λ m. ArePlaces m c.args.plan.named.items c.forget.new.kept) (sym (step_most c.args.change.now s.state c.step.new.state c.in_default.ensures.ok))
          (fewer_places s.state.max_objects c.args.plan.named.items c.args.plan.kept c.forget.new.kept (new_places_are s.state s.named.items p.kept s.order are c.args.plan p.is)
          (λ o slot found. (left_kept o slot (member o c.args.ids.now) (at o c.forget.new.kept) (at o c.args.plan.kept) (c.forget.ensures o) found).0));
    }

pub returns-in-Err-done-clause-any_moment : goal.returns-in-Err-done-clause-any_moment
returns-in-Err-done-clause-any_moment g c told held =
    let s = c.args.self.now in
    let p = c.requires.plan in
    let fewer : (o slot : ℕ) → at o p.kept ≡ Some slot → at o s.kept ≡ Some slot = λ o slot found. (left_kept o slot (member o c.args.ids.now) (at o p.kept) (at o s.kept) (p.left o) found).0 in
    let are = fewer_places s.state.max_objects s.named.items s.kept p.kept s.places fewer in
    let old = g.D.Disk.view c.args.disk.now in
    let mid = g.D.Disk.view c.checkpoint-turned.new.disk in
    plan_leaves_either s.state s.named.items p.kept s.order are c.args.plan p.is Two p.spelled p.fits old s.selected s.kept fewer held c.args.change.now mid (λ l m follows on. c.checkpoint-turned.ensures.any_moment told l m (subst (λ t. Follows (other (side_now s.selected)) t (pieces_of c.as_slice.result.now) l m) (sym c.as_slice-2.ensures.value) (subst (λ ps. Follows (other (side_now s.selected)) c.args.plan.table.items (pieces_of ps) l m) (sym c.as_slice.ensures.value) follows)) on)

pub returns-in_err-append-clause-any_moment : goal.returns-in_err-append-clause-any_moment
returns-in_err-append-clause-any_moment g c told held =
    let s = c.args.self.now in
    let p = c.requires.plan in
    let sound = sound_steps c.args.change.now c.requires.sound in
    let fewer : (o slot : ℕ) → at o p.kept ≡ Some slot → at o s.kept ≡ Some slot = λ o slot found. (left_kept o slot (member o c.args.ids.now) (at o p.kept) (at o s.kept) (p.left o) found).0 in
    let are = fewer_places s.state.max_objects s.named.items s.kept p.kept s.places fewer in
    let old = g.D.Disk.view c.args.disk.now in
    let mid = g.D.Disk.view c.checkpoint-turned.new.disk in
    let new = g.D.Disk.view c.append.new.disk in
    let there = plan_holds s.state s.named.items p.kept s.order are c.args.plan p.is Two p.spelled p.fits old s.selected s.kept fewer held mid c.checkpoint-turned.new.self (λ l m follows on. c.checkpoint-turned.ensures.done told c.in_default-done.ensures.ok l m (subst (λ t. Follows (other (side_now s.selected)) t (pieces_of c.as_slice.result.now) l m) (sym c.as_slice-2.ensures.value) (subst (λ ps. Follows (other (side_now s.selected)) c.args.plan.table.items (pieces_of ps) l m) (sym c.as_slice.ensures.value) follows)) on) in
    leaves_then (StandsForEither c.args.change.now s.state) old mid new
    (plan_leaves_either s.state s.named.items p.kept s.order are c.args.plan p.is Two p.spelled p.fits old s.selected s.kept fewer held c.args.change.now mid (λ l m follows on. c.checkpoint-turned.ensures.any_moment told l m (subst (λ t. Follows (other (side_now s.selected)) t (pieces_of c.as_slice.result.now) l m) (sym c.as_slice-2.ensures.value) (subst (λ ps. Follows (other (side_now s.selected)) c.args.plan.table.items (pieces_of ps) l m) (sym c.as_slice.ensures.value) follows)) on))
    (append_leaves c.args.change.now c.args.entry.now c.requires.fits c.requires.spelled sound s.state c.step.new.state c.in_default.ensures.ok mid new c.checkpoint-turned.new.self c.args.plan.named.items c.args.plan.kept there (c.append.ensures.any_moment told))

pub returns-clause-any_moment : goal.returns-clause-any_moment
returns-clause-any_moment g c told held =
    let s = c.args.self.now in
    let p = c.requires.plan in
    let sound = sound_steps c.args.change.now c.requires.sound in
    let fewer : (o slot : ℕ) → at o p.kept ≡ Some slot → at o s.kept ≡ Some slot = λ o slot found. (left_kept o slot (member o c.args.ids.now) (at o p.kept) (at o s.kept) (p.left o) found).0 in
    let are = fewer_places s.state.max_objects s.named.items s.kept p.kept s.places fewer in
    let old = g.D.Disk.view c.args.disk.now in
    let mid = g.D.Disk.view c.checkpoint-turned.new.disk in
    let new = g.D.Disk.view c.append.new.disk in
    let there = plan_holds s.state s.named.items p.kept s.order are c.args.plan p.is Two p.spelled p.fits old s.selected s.kept fewer held mid c.checkpoint-turned.new.self (λ l m follows on. c.checkpoint-turned.ensures.done told c.in_default-done.ensures.ok l m (subst (λ t. Follows (other (side_now s.selected)) t (pieces_of c.as_slice.result.now) l m) (sym c.as_slice-2.ensures.value) (subst (λ ps. Follows (other (side_now s.selected)) c.args.plan.table.items (pieces_of ps) l m) (sym c.as_slice.ensures.value) follows)) on) in
    leaves_then (StandsForEither c.args.change.now s.state) old mid new
    (plan_leaves_either s.state s.named.items p.kept s.order are c.args.plan p.is Two p.spelled p.fits old s.selected s.kept fewer held c.args.change.now mid (λ l m follows on. c.checkpoint-turned.ensures.any_moment told l m (subst (λ t. Follows (other (side_now s.selected)) t (pieces_of c.as_slice.result.now) l m) (sym c.as_slice-2.ensures.value) (subst (λ ps. Follows (other (side_now s.selected)) c.args.plan.table.items (pieces_of ps) l m) (sym c.as_slice.ensures.value) follows)) on))
    (append_leaves c.args.change.now c.args.entry.now c.requires.fits c.requires.spelled sound s.state c.step.new.state c.in_default.ensures.ok mid new c.checkpoint-turned.new.self c.args.plan.named.items c.args.plan.kept there (c.append.ensures.any_moment told))

pub returns-clause-ok : goal.returns-clause-ok
returns-clause-ok g c told held =
    let s = c.args.self.now in
    let p = c.requires.plan in
    let sound = sound_steps c.args.change.now c.requires.sound in
    let fewer : (o slot : ℕ) → at o p.kept ≡ Some slot → at o s.kept ≡ Some slot = λ o slot found. (left_kept o slot (member o c.args.ids.now) (at o p.kept) (at o s.kept) (p.left o) found).0 in
    let are = fewer_places s.state.max_objects s.named.items s.kept p.kept s.places fewer in
    let old = g.D.Disk.view c.args.disk.now in
    let mid = g.D.Disk.view c.checkpoint-turned.new.disk in
    let new = g.D.Disk.view c.append.new.disk in
    let there = plan_holds s.state s.named.items p.kept s.order are c.args.plan p.is Two p.spelled p.fits old s.selected s.kept fewer held mid c.checkpoint-turned.new.self (λ l m follows on. c.checkpoint-turned.ensures.done told c.in_default-done.ensures.ok l m (subst (λ t. Follows (other (side_now s.selected)) t (pieces_of c.as_slice.result.now) l m) (sym c.as_slice-2.ensures.value) (subst (λ ps. Follows (other (side_now s.selected)) c.args.plan.table.items (pieces_of ps) l m) (sym c.as_slice.ensures.value) follows)) on) in
    append_holds c.args.change.now c.args.entry.now c.requires.fits c.requires.spelled sound s.state c.step.new.state c.in_default.ensures.ok mid new c.checkpoint-turned.new.self c.args.plan.named.items c.args.plan.kept there c.append.new.selected c.forget.new.kept (c.in_ok-append.ensures.ok told)
    (λ o. c.forget.ensures o ∙ ap (λ (l : List ℕ). cond (member o l) None (at o c.args.plan.kept)) c.requires.ids)

pub returns-clause-kept : goal.returns-clause-kept
returns-clause-kept g c o slot found live out =
    let s = c.args.self.now in
    let p = c.requires.plan in
    let spared : member o c.args.ids.now ≡ false = ap (λ (l : List ℕ). member o l) c.requires.ids ∙ out in
    let was = keeps_left slot (member o c.args.ids.now) (at o p.kept) (at o s.kept) (p.left o) found spared in
    let placed_there = placed_keeps p.kept s.state.volume (free_below (2 * s.state.max_objects) s.named.items) o slot was live in
    keeps_left slot (member o c.args.ids.now) (at o c.forget.new.kept) (at o c.args.plan.kept) (c.forget.ensures o) (ap (λ (l : List (ℕ × ℕ)). at o l) p.is.places ∙ placed_there) spared

pub invariant_of-self : goal.invariant_of-self
invariant_of-self g c =
    let s = c.args.self.now in
    let is = left_is s.named.items s.kept s.state c.step.new.state (s.formed, s.order, s.places) c.in-Err.ensures.err in
    record { formed = is.0; order = is.1; places = is.2 }

pub returns-in-Err-clause-turned : goal.returns-in-Err-clause-turned
returns-in-Err-clause-turned g c =
    let a = (g.D.Disk.counts c.args.disk.now).armed in
    turns_within 0 (length c.args.plan.pieces.items + 9) a a (Unit {0}) _ ⊥ _ (omega arith) (turns_none a (Unit {0})) (λ h. search rules) (λ t. search rules)

pub returns-in-Err-clause-old : goal.returns-in-Err-clause-old
returns-in-Err-clause-old g c told held =
    let s = c.args.self.now in
    let now = g.D.Disk.view c.args.disk.now in
    held_stands now s.selected s.named.items s.kept s.state held now.synced (g.met.D.Disk.given_synced told c.args.disk.now)

pub returns-in-Err-done-clause-no_memory : goal.returns-in-Err-done-clause-no_memory
returns-in-Err-done-clause-no_memory g c is =
    let same : c.checkpoint-turned.result ≡ said.NoMemory = search rules in
    let n = length c.as_slice.result.now + 5 in
    inr (n, subst (λ a. EndsBy g.D.Disk.does a n c.args.disk.now c.checkpoint-turned.new.disk) same (c.checkpoint-turned.ensures.ends c.in-Err-done.ensures.not_done))

pub returns-in-Err-done-clause-turned : goal.returns-in-Err-done-clause-turned
returns-in-Err-done-clause-turned g c =
    let a = (g.D.Disk.counts c.args.disk.now).armed in
    let b = (g.D.Disk.counts c.checkpoint-turned.new.disk).armed in
    turns_within (length c.as_slice.result.now + 5) (length c.args.plan.pieces.items + 9) a b (c.checkpoint-turned.result ≡ said.Done) _ (c.checkpoint-turned.result ≡ said.Stopped) _
    (omega (arith, ap length c.as_slice.ensures.value)) c.checkpoint-turned.ensures.turns (λ h. search rules) (λ t. search rules)

pub returns-in-Err-done-clause-old : goal.returns-in-Err-done-clause-old
returns-in-Err-done-clause-old g c told held =
    let s = c.args.self.now in
    let p = c.requires.plan in
    let fewer : (o slot : ℕ) → at o p.kept ≡ Some slot → at o s.kept ≡ Some slot = λ o slot found. (left_kept o slot (member o c.args.ids.now) (at o p.kept) (at o s.kept) (p.left o) found).0 in
    let are = fewer_places s.state.max_objects s.named.items s.kept p.kept s.places fewer in
    let old = g.D.Disk.view c.args.disk.now in
    let mid = g.D.Disk.view c.checkpoint-turned.new.disk in
    plan_lies s.state s.named.items p.kept s.order are c.args.plan p.is Two p.spelled p.fits old s.selected s.kept fewer held mid.synced (λ l m follows on. c.checkpoint-turned.ensures.old told c.in-Err-done.ensures.not_done l m (subst (λ t. Follows (other (side_now s.selected)) t (pieces_of c.as_slice.result.now) l m) (sym c.as_slice-2.ensures.value) (subst (λ ps. Follows (other (side_now s.selected)) c.args.plan.table.items (pieces_of ps) l m) (sym c.as_slice.ensures.value) follows)) on)

pub returns-in_err-append-clause-no_memory : goal.returns-in_err-append-clause-no_memory
returns-in_err-append-clause-no_memory g c is =
    let same : IsErrOf c.append.result fault.NoMemory = search rules in
    let n = length c.as_slice.result.now + 5 in
    inr (n + 4, ends_later g.D.Disk.does said.NoMemory n 4 c.args.disk.now c.checkpoint-turned.new.disk c.append.new.disk (c.checkpoint-turned.ensures.did c.in_default-done.ensures.ok) (c.append.ensures.no_memory same))

pub returns-in_err-append-clause-turned : goal.returns-in_err-append-clause-turned
returns-in_err-append-clause-turned g c =
    let a = (g.D.Disk.counts c.args.disk.now).armed in
    let b = (g.D.Disk.counts c.checkpoint-turned.new.disk).armed in
    let d = (g.D.Disk.counts c.append.new.disk).armed in
    let n = length c.as_slice.result.now + 5 in
    turns_for (length c.args.plan.pieces.items + 9) a d (IsOk c.append.result) _ (IsErrOf c.append.result fault.DiskStopped) _
    (turns_then n 4 (length c.args.plan.pieces.items + 9) a b d (c.checkpoint-turned.result ≡ said.Done) (IsOk c.append.result) (c.checkpoint-turned.result ≡ said.Stopped) (IsErrOf c.append.result fault.DiskStopped)
    (omega (arith, ap length c.as_slice.ensures.value)) c.checkpoint-turned.ensures.turns c.in_default-done.ensures.ok c.append.ensures.turned)
    (λ h. search rules) (λ t. search rules)

pub returns-clause-turned : goal.returns-clause-turned
returns-clause-turned g c =
    let a = (g.D.Disk.counts c.args.disk.now).armed in
    let b = (g.D.Disk.counts c.checkpoint-turned.new.disk).armed in
    let d = (g.D.Disk.counts c.append.new.disk).armed in
    let n = length c.as_slice.result.now + 5 in
    turns_for (length c.args.plan.pieces.items + 9) a d (IsOk c.append.result) _ (IsErrOf c.append.result fault.DiskStopped) _
    (turns_then n 4 (length c.args.plan.pieces.items + 9) a b d (c.checkpoint-turned.result ≡ said.Done) (IsOk c.append.result) (c.checkpoint-turned.result ≡ said.Stopped) (IsErrOf c.append.result fault.DiskStopped)
    (omega (arith, ap length c.as_slice.ensures.value)) c.checkpoint-turned.ensures.turns c.in_default-done.ensures.ok c.append.ensures.turned)
    (λ h. search rules) (λ t. search rules)

pub returns-in_err-append-clause-old : goal.returns-in_err-append-clause-old
returns-in_err-append-clause-old g c =
    let s = c.args.self.now in
    let p = c.requires.plan in
    let fewer : (o slot : ℕ) → at o p.kept ≡ Some slot → at o s.kept ≡ Some slot = λ o slot found. (left_kept o slot (member o c.args.ids.now) (at o p.kept) (at o s.kept) (p.left o) found).0 in
    let are = fewer_places s.state.max_objects s.named.items s.kept p.kept s.places fewer in
    let old = g.D.Disk.view c.args.disk.now in
    let mid = g.D.Disk.view c.checkpoint-turned.new.disk in
    let new = g.D.Disk.view c.append.new.disk in
    let stands : g.D.Disk.tells → StoreHolds old s.selected s.named.items s.kept s.state → StandsFor new.synced s.state = λ told held.
    let there = plan_holds s.state s.named.items p.kept s.order are c.args.plan p.is Two p.spelled p.fits old s.selected s.kept fewer held mid c.checkpoint-turned.new.self (λ l m follows on. c.checkpoint-turned.ensures.done told c.in_default-done.ensures.ok l m (subst (λ t. Follows (other (side_now s.selected)) t (pieces_of c.as_slice.result.now) l m) (sym c.as_slice-2.ensures.value) (subst (λ ps. Follows (other (side_now s.selected)) c.args.plan.table.items (pieces_of ps) l m) (sym c.as_slice.ensures.value) follows)) on) in
    held_lies mid c.checkpoint-turned.new.self c.args.plan.named.items c.args.plan.kept s.state there new.synced (λ l on. c.in_err-append.ensures.old told l on) in
    search (rules, stands)

pub returns-in-Err-done-clause-halves : goal.returns-in-Err-done-clause-halves
returns-in-Err-done-clause-halves g c is told held turn armed =
    let s = c.args.self.now in
    let p = c.requires.plan in
    let fewer : (o slot : ℕ) → at o p.kept ≡ Some slot → at o s.kept ≡ Some slot = λ o slot found. (left_kept o slot (member o c.args.ids.now) (at o p.kept) (at o s.kept) (p.left o) found).0 in
    let are = fewer_places s.state.max_objects s.named.items s.kept p.kept s.places fewer in
    let old = g.D.Disk.view c.args.disk.now in
    let mid = g.D.Disk.view c.checkpoint-turned.new.disk in
    let n = length c.as_slice.result.now + 5 in
    let stopped : c.checkpoint-turned.result ≡ said.Stopped = search rules in
    let few : turn ≤ n = stops_within n turn (g.D.Disk.counts c.args.disk.now).armed (g.D.Disk.counts c.checkpoint-turned.new.disk).armed (c.checkpoint-turned.result ≡ said.Done) (c.checkpoint-turned.result ≡ said.Stopped) c.checkpoint-turned.ensures.turns stopped armed in
    let only = plan_leaves s.state s.named.items p.kept s.order are c.args.plan p.is Two p.spelled p.fits old s.selected s.kept fewer held mid (λ l m follows on. c.checkpoint-turned.ensures.any_moment told l m (subst (λ t. Follows (other (side_now s.selected)) t (pieces_of c.as_slice.result.now) l m) (sym c.as_slice-2.ensures.value) (subst (λ ps. Follows (other (side_now s.selected)) c.args.plan.table.items (pieces_of ps) l m) (sym c.as_slice.ensures.value) follows)) on) in (
      omega (arith, few, ap length c.as_slice.ensures.value),
      record {
        early = λ first image left. only.each image (g.met.D.Disk.counts_now told c.checkpoint-turned.new.disk old.moment image only.later left);
        late = λ last. absurd (omega (arith, few, last, ap length c.as_slice.ensures.value));
      },
    )

pub returns-in_err-append-clause-halves : goal.returns-in_err-append-clause-halves
returns-in_err-append-clause-halves g c is told held turn armed =
    let s = c.args.self.now in
    let p = c.requires.plan in
    let fewer : (o slot : ℕ) → at o p.kept ≡ Some slot → at o s.kept ≡ Some slot = λ o slot found. (left_kept o slot (member o c.args.ids.now) (at o p.kept) (at o s.kept) (p.left o) found).0 in
    let are = fewer_places s.state.max_objects s.named.items s.kept p.kept s.places fewer in
    let old = g.D.Disk.view c.args.disk.now in
    let mid = g.D.Disk.view c.checkpoint-turned.new.disk in
    let new = g.D.Disk.view c.append.new.disk in
    let a = (g.D.Disk.counts c.args.disk.now).armed in
    let b = (g.D.Disk.counts c.checkpoint-turned.new.disk).armed in
    let n = length c.as_slice.result.now + 5 in
    let stopped : IsErrOf c.append.result fault.DiskStopped = search rules in
    let went = c.in_default-done.ensures.ok in
    let turns = c.checkpoint-turned.ensures.turns in
    let behind : n ≤ turn - 1 = stops_behind n turn a b (c.checkpoint-turned.result ≡ said.Done) (c.checkpoint-turned.result ≡ said.Stopped) turns went armed in
    let armed_mid : b ≡ Some (turn - n) = turns.turned.next ∙ ap (λ (o : Option ℕ). after_calls turns.turns o) armed ∙ ap (λ (k : ℕ). Some (turn - k)) (turns.all went) in
    let there = plan_holds s.state s.named.items p.kept s.order are c.args.plan p.is Two p.spelled p.fits old s.selected s.kept fewer held mid c.checkpoint-turned.new.self (λ l m follows on. c.checkpoint-turned.ensures.done told went l m (subst (λ t. Follows (other (side_now s.selected)) t (pieces_of c.as_slice.result.now) l m) (sym c.as_slice-2.ensures.value) (subst (λ ps. Follows (other (side_now s.selected)) c.args.plan.table.items (pieces_of ps) l m) (sym c.as_slice.ensures.value) follows)) on) in
    let way = c.append.ensures.halves stopped told (turn - n) armed_mid in
    let few : turn - n ≤ 4 = stops_within 4 (turn - n) b (g.D.Disk.counts c.append.new.disk).armed (IsOk c.append.result) (IsErrOf c.append.result fault.DiskStopped) c.append.ensures.turned stopped armed_mid in (
      omega (arith, few, ap length c.as_slice.ensures.value),
      record {
        early = λ first image left. held_lies mid c.checkpoint-turned.new.self c.args.plan.named.items c.args.plan.kept s.state there image (λ l on. (way l on).early (omega (arith, first, ap length c.as_slice.ensures.value)) image left);
        late = λ last e stepped.
            append_given c.args.change.now c.args.entry.now c.requires.fits c.requires.spelled (sound_steps c.args.change.now c.requires.sound) s.state e stepped mid new c.checkpoint-turned.new.self c.args.plan.named.items c.args.plan.kept there new.gives (λ l on. (way l on).late (omega (arith, last, behind, ap length c.as_slice.ensures.value)));
      },
    )
