-- What a power cut leaves of a record, and what is read back of it.
use Rattle.std.proofs.Common.{◌≡◌, ◌≤◌, inl, inr, ⊎_elim, sym, ◌∙◌, ap, subst, ℕ, true, false, List}
use Rattle.std.specs.Prelude.{Result, Ok}
use Rattle.ec_disk.specs.Choices.{cut}
use Rattle.ec_disk.specs.Disk.{View}
use Rattle.ec_disk.specs.Effects.{Cut, LeavesOnly}
use Rattle.ec_disk.specs.declared.disk.Choice.{Choice}
use Rattle.ec_durable.specs.Durable.{step}
use Rattle.ec_durable.specs.declared.record.Record.{Record}
use Rattle.ec_durable.specs.declared.record.RecordFault.{RecordFault}
use Rattle.ec_durable.specs.declared.state.Durable.{Durable}
use Rattle.ec_stands.specs.Laws.{one_state, not_both}
use Rattle.ec_stands.specs.Stands.{StandsFor, IsBadAt}
use Rattle.ec_store.specs.Opening.{WasLeftOrStands}
use Rattle.ec_store.specs.Store.{StandsForEither}
use Rattle.ec_world.proofs.Telling.{signs_tell}
use Rattle.ec_marking.specs.KeptRuns.{LeavesEither}
use Rattle.ec_world.specs.Cutting.{LeavesBy, left_of}
use Rattle.ec_marking.specs.Signs.{sign_of, is_there}
use Rattle.ec_marking.specs.declared.signs.Sign.{Sign}

-- what is left now is among what was left since an earlier moment
pub leaves_either : (r : Record) (d : Durable) (old new : View) → ((since : ℕ) (image : List ℕ) → since ≤ new.moment → new.may_leave image → new.left_since since image) → LeavesOnly old new (StandsForEither r d) → LeavesEither r d new
leaves_either r d old new now leaves image left = leaves.each image (now old.moment image leaves.later left)

pub cut_leaves : (r : Record) (d : Durable) (old new : View) → Cut old new → LeavesEither r d old → LeavesEither r d new
cut_leaves r d old new cut either image left = either image (cut.crash image left)

-- another image that stands for the same state
same_state : (r : Record) (d state : Durable) (image other : List ℕ) → StandsFor image state → StandsFor other state → StandsForEither r d image → StandsForEither r d other
same_state r d state image other here there either =
    ⊎_elim
    (λ before. inl (subst (λ (x : Durable). StandsFor other x) (one_state image state d here before) there))
    (λ behind. inr (behind.0, behind.1, subst (λ (x : Durable). StandsFor other x) (one_state image state behind.0 here behind.2) there))
    either

-- opening what is left leaves nothing else
pub open_leaves : (r : Record) (d : Durable) (old new : View) → ((since : ℕ) (image : List ℕ) → since ≤ new.moment → new.may_leave image → new.left_since since image) → old.may_leave old.gives → LeavesOnly old new (WasLeftOrStands old) → LeavesEither r d old → LeavesEither r d new
open_leaves r d old new now given leaves either image left =
    ⊎_elim
    (λ was. either image was)
    (λ same. same_state r d same.0 old.gives image same.1 same.2 (either old.gives given))
    (leaves.each image (now old.moment image leaves.later left))

-- what is left has no bad place
pub none_bad : (r : Record) (d : Durable) (now : View) (place : ℕ) → now.may_leave now.gives → LeavesEither r d now → IsBadAt now.gives place → ⊥
none_bad r d now place given either bad =
    ⊎_elim (λ before. not_both now.gives d place before bad) (λ behind. not_both now.gives behind.0 place behind.2 bad) (either now.gives given)

same_Ok : (d e : Durable) → ◌≡◌ {A = Result Durable RecordFault} (Ok d) (Ok e) → d ≡ e
same_Ok d e p = cc

-- the sign tells which state is left
pub sign_tells : (s : Sign) (r : Record) (d e left : Durable) (image : List ℕ) → s ≡ sign_of r → step r d ≡ Ok e → StandsForEither r d image → StandsFor image left → left ≡ left_of (is_there s left) d e
sign_tells s r d e left image is takes either stands =
    ⊎_elim
    (λ before. as_before (one_state image left d stands before))
    (λ behind. as_behind (one_state image left behind.0 stands behind.2 ∙ same_Ok behind.0 e (sym behind.1 ∙ takes)))
    either
  where
    tell : (is_there (sign_of r) d ≡ false) × (is_there (sign_of r) e ≡ true)
    tell = signs_tell r d e takes

    seen : (x : Durable) → left ≡ x → is_there s left ≡ is_there (sign_of r) x
    seen x p = ap (λ (t : Sign). is_there t left) is ∙ ap (λ (y : Durable). is_there (sign_of r) y) p

    as_before : left ≡ d → left ≡ left_of (is_there s left) d e
    as_before p = p ∙ sym (ap (λ b. left_of b d e) (seen d p ∙ tell.0))

    as_behind : left ≡ e → left ≡ left_of (is_there s left) d e
    as_behind p = p ∙ sym (ap (λ b. left_of b d e) (seen e p ∙ tell.1))

-- what stands for the state before isn't stepped by the record
pub sign_tells_not : (s : Sign) (r : Record) (d e left : Durable) (image : List ℕ) → s ≡ sign_of r → step r d ≡ Ok e → StandsFor image left → StandsFor image d → is_there s left ≡ false
sign_tells_not s r d e left image is takes stands before =
    ap (λ (t : Sign). is_there t left) is ∙ ap (λ (y : Durable). is_there (sign_of r) y) (one_state image left d stands before) ∙ (signs_tell r d e takes).0

-- and what stands for the stepped one is
sign_tells_there : (s : Sign) (r : Record) (d e left : Durable) (image : List ℕ) → s ≡ sign_of r → step r d ≡ Ok e → StandsFor image left → StandsFor image e → is_there s left ≡ true
sign_tells_there s r d e left image is takes stands behind =
    ap (λ (t : Sign). is_there t left) is ∙ ap (λ (y : Durable). is_there (sign_of r) y) (one_state image left e stands behind) ∙ (signs_tell r d e takes).1

-- what a power cut leaves of the record, by its choice
pub leaves_by : (ch : Choice) (s : Sign) (r : Record) (d e left : Durable) (now : View) (gives : List ℕ) → s ≡ sign_of r → step r d ≡ Ok e → gives ≡ cut ch now.gives now.synced → now.may_leave gives → StandsFor gives left → LeavesBy ch d e now (is_there s left)
leaves_by ch s r d e left now gives is takes leaves may stands =
    let there : StandsFor (cut ch now.gives now.synced) left = subst (λ (image : List ℕ). StandsFor image left) leaves stands in
    record {
      left = subst now.may_leave leaves may;
      taken_back = λ before. sign_tells_not s r d e left (cut ch now.gives now.synced) is takes there before;
      kept = λ behind. sign_tells_there s r d e left (cut ch now.gives now.synced) is takes there behind;
    }
