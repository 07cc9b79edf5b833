-- A call that touches nothing comes to the same on every volume; a clerk without a session answers no other.
use Rattle.std.proofs.Common.{◌≡◌, refl, sym, ap, subst, ◌∙◌, ◌-◌, ℕ, Bool, true, false, not, ◌&&◌, T, List, [], ◌∷◌, length, None}
use Rattle.std.proofs.lemmas.Bool.{true≢false}
use Rattle.std.specs.Prelude.{if◌then◌else◌}
use Rattle.ec_base.specs.Tables.{or_else}
use Rattle.ec_base.specs.declared.ids.Hold.TheVariants.{Read}
use Rattle.ec_volume.specs.Entries.{Entries}
use Rattle.ec_volume.specs.Image.{entries_of, is_dir, is_id}
use Rattle.ec_volume.specs.Update.{member, root}
use Rattle.ec_volume.specs.Volume.{Images}
use Rattle.ec_volume.specs.declared.image.Image.TheVariants.{Gone}
use Rattle.ec_volume.specs.declared.image.Kind.TheVariants as kind
use Rattle.ec_plain.specs.Walk.{Not, Path, last_of, parent_of, walk}
use Rattle.ec_plain.specs.Plain.{make_in, on_parent, on_reached, plain, refuses}
use Rattle.ec_plain.specs.declared.call.Call.{Call}
use Rattle.ec_plain.specs.declared.call.Call.TheVariants as call
use Rattle.ec_plain.specs.declared.call.Outcome.{Outcome}
use Rattle.ec_plain.specs.declared.call.Refusal.TheVariants as no
use Rattle.ec_history.specs.Placing.{shows}
use Rattle.ec_history.specs.declared.entry.Answer.TheVariants as answer
use Rattle.ec_cache.specs.Cache.{holds, images_held}
use Rattle.ec_cache.specs.OfResolve.Agreement.{Shows, is_unread}
use Rattle.ec_cache.specs.declared.resolve.verdict.Verdict.{Verdict}
use Rattle.ec_cache.specs.declared.resolve.verdict.Verdict.TheVariants.{Need, Lost, NeedIds, Done}
use Rattle.ec_cache.proofs.OfResolve.Agreeing.{plain-agrees}
use Rattle.ec_cache.proofs.OfResolve.Verdicts.{done-ready, done-says}
use Rattle.ec_protocol.specs.Clerk.{first_id, verdict}
use Rattle.ec_coherence.specs.Answers.{Gives}
use Rattle.ec_lawful.proofs.OfClerkSteps.OutsideAnswers.{reads-none}
use Rattle.ec_lawful.proofs.OfClerkSteps.ForCalls.Sessionless.{outside-shows-none}
use Rattle.ec_lease_machine.specs.OfLeaseLaws.Outside.{OutsideAreBare}
use Rattle.ec_lawful.proofs.OfClerkSteps.Alone.{no-members}
use Rattle.ec_lawful.proofs.OfClerkSteps.Rootless.{some-touched}

abbrev nothing : Images
nothing = λ x. Gone

walk-nothing : (p : Path) → walk nothing p ≡ record { to = Not (no.NotFound 0); read = root ∷ [] }
walk-nothing [] = refl
walk-nothing (n ∷ ns) = refl

-- a walk on nothing touches the root
by-walk : {A : Type 0} (p : Path) (f : ℕ → List ℕ → Outcome) → (on_reached (walk nothing p) f).touched ≡ [] → A
by-walk p f t = some-touched (on_reached (walk nothing p) f).touched (ap (λ w. (on_reached w f).touched) (walk-nothing p)) t

by-parent : {A : Type 0} (p : Path) (f : ℕ → Entries → List ℕ → Outcome) → (on_parent nothing p f).touched ≡ [] → A
by-parent p f t = by-walk (parent_of p) (λ dir read. if is_dir (nothing dir) then f dir (entries_of (nothing dir)) read else refuses (no.NotDir (length p - 1)) read) t

-- the id of a new object is all the same to a call that touches nothing
other-id : (cl : Call) (x y : ℕ) → (plain nothing cl x).touched ≡ [] → plain nothing cl y ≡ plain nothing cl x
other-id (call.Mkdir []) x y t = refl
other-id (call.Mkdir (n ∷ ns)) x y t = by-parent (n ∷ ns) (make_in kind.Dir (last_of (n ∷ ns)) x) t
other-id (call.Create []) x y t = refl
other-id (call.Create (n ∷ ns)) x y t = by-parent (n ∷ ns) (make_in kind.File (last_of (n ∷ ns)) x) t
other-id cl x y t = refl

everywhere : (v : Images) (cl : Call) (x : ℕ) → (plain v cl x).touched ≡ [] → (w : Images) (y : ℕ) → plain w cl y ≡ plain v cl x
everywhere v cl x t w y =
    let one : plain nothing cl x ≡ plain v cl x = plain-agrees v nothing cl x (λ z m. absurd (subst (λ zs. T (member z zs)) t m)) in
    let two : plain nothing cl y ≡ plain nothing cl x = other-id cl x y (ap (λ o. o.touched) one ∙ t) in
    let none : (plain nothing cl y).touched ≡ [] = ap (λ o. o.touched) (two ∙ one) ∙ t in
    plain-agrees nothing w cl y (λ z m. absurd (subst (λ zs. T (member z zs)) none m)) ∙ two ∙ one

-- Answers.

abbrev Fixed : Call → Type 0
Fixed cl = (out : Outcome) × ((v : Images) (x : ℕ) → plain v cl x ≡ out) × (out.touched ≡ [])

lost-fixed : (cl : Call) (ns : List ℕ) → shows cl (answer.Lost ns) ≡ false → Fixed cl
lost-fixed call.Sync ns q = (plain nothing call.Sync 0, (λ v x. refl), refl)
lost-fixed cl ns q = absurd (true≢false q)

room-fixed : (cl : Call) (l r : ℕ) → shows cl (answer.NoRoom l r) ≡ false → Fixed cl
room-fixed call.Sync l r q = (plain nothing call.Sync 0, (λ v x. refl), refl)
room-fixed cl l r q = absurd (true≢false q)

pub outside-bare : OutsideAreBare
outside-bare k none cl bounded most a op rest gives = record { unshown = q.0; issues = q.1; out = fixed.0; everywhere = fixed.1; touched = fixed.2 }
  where
    q : (shows cl a ≡ false) × (op ≡ None)
    q = outside-shows-none k none cl bounded most a op rest gives

    -- all that isn't unread is held
    unread : (x : ℕ) → is_unread k.cache (first_id k.ids) x ≡ false → ⊥
    unread x e = reads-none k none x (twice (holds x Read k.cache) (sym (ap (λ z. not (is_id x z) && not (holds x Read k.cache)) (ap first_id none.ids)) ∙ e))
      where
        twice : (b : Bool) → not b ≡ false → T b
        twice true e = tt
        twice false e = absurd (true≢false e)

    shown : Shows k.cache (first_id k.ids) (images_held k.cache)
    shown = record { images = λ x t. refl; unmade = λ x t. refl }

    go : (v : Verdict) → verdict cl k ≡ v → Gives most k v a op rest → Fixed cl
    go (Need x h) e g = absurd g
    go (NeedIds xs) e g = room-fixed cl g.0 g.1 (ap (shows cl) (sym g.2) ∙ q.0)
    go (Lost ns xs) e g = lost-fixed cl ns (ap (shows cl) (sym g.0) ∙ q.0)
    go (Done o) e g =
        let is : plain (images_held k.cache) cl (or_else 0 (first_id k.ids)) ≡ o = done-says k.cache k.owed cl (first_id k.ids) o e (images_held k.cache) shown (or_else 0 (first_id k.ids)) (λ x p. ap (or_else 0) p) in
        let r = done-ready k.cache k.owed cl (first_id k.ids) o e in
        let none-read : o.touched ≡ [] = no-members o.touched (λ x m. unread x (r.read x m)) in
        (o, (λ v x. everywhere (images_held k.cache) cl (or_else 0 (first_id k.ids)) (ap (λ z. z.touched) is ∙ none-read) v x ∙ is), none-read)

    fixed : Fixed cl
    fixed = go (verdict cl k) refl gives
