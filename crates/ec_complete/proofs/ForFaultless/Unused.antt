-- The id that the line's clerk gets for its next object is of no operation that is kept.
use Rattle.std.proofs.Common.{◌≡◌, refl, sym, ap, subst, ◌∙◌, inl, inr, ◌⊎◌, arith, ◌≤◌, ◌<◌, ◌+◌, ℕ, suc, zero, Bool, true, false, not, ◌==◌, ◌&&◌, ◌||◌, T, List, [], ◌∷◌, Option, Some, None}
use Rattle.std.specs.Prelude.{is_some, nat_le, nat_lt}
use Rattle.std.proofs.lemmas.Bool.{eqb-true, eq-eqb}
use Rattle.std.proofs.lemmas.Bool.Decides.{nat_tests}
use Rattle.ec_base.specs.Tables.{at, or_else}
use Rattle.ec_volume.specs.Update.{has_operand, member, operands}
use Rattle.ec_history.specs.History.{Each, Op}
use Rattle.ec_sessions.specs.declared.slot.Slot.{Slot}
use Rattle.ec_durable.specs.Durable.{slot}
use Rattle.ec_protocol.specs.Clerk.{first_id}
use Rattle.ec_protocol.specs.declared.clerk.Clerk.{Clerk}
use Rattle.ec_protocol.specs.declared.world.World.{World}
use Rattle.ec_coherence.specs.Invariant.{Invariant}
use Rattle.ec_coherence.specs.Log.{IdsAgree}
use Rattle.ec_coherence.specs.System.{System, clerk_in, is_open, seen_ops, undurable}
use Rattle.ec_coherence.specs.Tokens.{Names, in_sixteen, is_hidden, is_untaken, side_in, view}
use Rattle.ec_coherence.proofs.ForBatches.OpenSlots.{at-open}
use Rattle.ec_coherence.proofs.ForServer.Tables.{same_some}
use Rattle.ec_lawful.specs.Whole.{Whole}
use Rattle.ec_quiet.specs.Facts.{IsIn, StartIsNew as IsNew}
use Rattle.ec_quiet.specs.Phases.{InPhase, Phase}
use Rattle.ec_quiet.specs.Scenes.{IsScene, Scene}
use Rattle.ec_quiet.specs.Works.{Work}
use Rattle.ec_complete.specs.OfAgreedLines.Worlds.{IsSeen}
use Rattle.ec_complete.proofs.OfAgreedLines.Seen.{clerk-there, scenes-seen}
use Rattle.ec_complete.specs.Lines.{IsOnLine, next_given, next_object}
use Rattle.ec_complete.proofs.ForLines.Taking.{runs-in}
use Rattle.ec_complete.proofs.ForLines.Standing.{own}
use Rattle.ec_quiet.specs.OfDeliveries.ScriptWorks.{LeaveOut}
use Rattle.ec_base.proofs.Numbers.{same-self as same}

-- an id above all of a list is none of it
above-all : (n x : ℕ) (P : ℕ → Type 0) (ys : List ℕ) → n ≤ x → Each (λ y. (y < n) × P y) ys → T (not (member x ys))
above-all n x P [] l a = tt
above-all n x P (y ∷ ys) l a = go (x == y) (member x ys) (apart x y (omega (arith, a.0.0, l))) (above-all n x P ys l a.1)
  where
    apart : (x y : ℕ) → suc y ≤ x → (x == y) ≡ false
    apart x y l = grind (arith, nat_tests, l)

    go : (b m : Bool) → b ≡ false → T (not m) → T (not (b || m))
    go false m e t = t
    go true m e t = absurd (cc)

each-left : (n x : ℕ) (P : ℕ → Type 0) (ks : List Op) → n ≤ x → Each (λ o. Each (λ y. (y < n) × P y) (operands o.update)) ks → LeaveOut x ks
each-left n x P [] l a = tt
each-left n x P (o ∷ ks) l a = (above-all n x P (operands o.update) l a.0, each-left n x P ks l a.1)

module _ (w : World) (sc : Scene) (g : System) (whole : Whole g) (seen : IsSeen g sc) where
  inv : Invariant g
  inv = whole.all.0

  -- the server's next id
  later : LeaveOut sc.server.durable.next_id g.ghost.kept
  later = each-left g.durable.next_id sc.server.durable.next_id (λ y. (s : ℕ) → T (not (is_hidden (view g) s y))) g.ghost.kept (omega (arith, ap (λ d. d.next_id) seen.durable)) whole.names.kept

  -- a clerk without a session
  module _ (c : ℕ) (k : Clerk) (new : IsNew k) where
    given-new : (o : Option Slot) → next_given sc.server.durable.next_id k o ≡ sc.server.durable.next_id
    given-new None = refl
    given-new (Some sl) = ap (λ z. elim (is_some z && (sl.grants == k.got + 1)) as (λ y. ℕ) [ true ↦ or_else 0 sl.last_first | false ↦ sc.server.durable.next_id ]) new.session

    pub new-unused : LeaveOut (next_object sc c k) g.ghost.kept
    new-unused = subst (λ x. LeaveOut x g.ghost.kept)
        (sym (ap (λ z. or_else (next_given sc.server.durable.next_id k (slot sc.server.durable c)) (first_id z)) new.ids ∙ given-new (slot sc.server.durable c))) later

  -- a clerk in its session
  module _ (c b s : ℕ) (k : Clerk) (sl : Slot) (stands : g.clerks c b ≡ Some k) (inside : IsIn sc.server c sl k) (of : sl.session ≡ s) where
    within : k.session ≡ Some s
    within = inside.session ∙ ap Some of

    here : slot g.durable c ≡ Some sl
    here = ap (λ d. slot d c) seen.durable ∙ inside.there

    opened : T (is_open g s)
    opened = at-open s g.durable.sessions c sl (here, of, subst T (sym inside.is_open) tt)

    its : clerk_in g s ≡ Some k
    its = clerk-there g inv.sessions c b s k stands within

    free : (x : ℕ) → T (member x k.ids) ⊎ T (is_hidden (view g) s x) → LeaveOut x g.ghost.kept
    free x f = subst (λ z. LeaveOut x (seen_ops z g.ghost.kept)) (inv.images.unfrozen s opened) (whole.frees.unused s x k its f).0

    ids : IdsAgree k sl (g.ghost.grants s) (g.ghost.first s) (undurable g.ghost s)
    ids = (inv.logs.logs s c sl here of (subst T (sym inside.is_open) tt) k its).ids

    given-unused : (a b : Bool) → (sl.grants == k.got + 1) ≡ b → LeaveOut (elim (a && b) as (λ z. ℕ) [ true ↦ or_else 0 sl.last_first | false ↦ sc.server.durable.next_id ]) g.ghost.kept
    given-unused false b e = later
    given-unused true false e = later
    given-unused true true e = subst (λ x. LeaveOut x g.ghost.kept) (sym (ap (or_else 0) (ids.last some))) (free (g.ghost.first s) (inr hidden))
      where
        granted : k.got + 1 ≡ g.ghost.grants s
        granted = sym (eqb-true sl.grants (k.got + 1) e) ∙ ids.granted

        some : suc zero ≤ g.ghost.grants s
        some = positive k.got (g.ghost.grants s) granted
          where
            positive : (a n : ℕ) → a + 1 ≡ n → 1 ≤ n
            positive a n e = omega (arith, e)

        sixteen : (x : ℕ) → in_sixteen x x ≡ true
        sixteen x = grind (arith, nat_tests)

        both : (a b : Bool) → a ≡ true → b ≡ true → T (a && b)
        both true true p q = tt
        both true false p q = absurd (cc)
        both false b p q = absurd (cc)

        hidden : T (is_hidden (view g) s (g.ghost.first s))
        hidden = subst (λ o. T (is_untaken (g.ghost.grants s) (g.ghost.first s) (side_in o) (g.ghost.first s))) (sym its)
            (both (k.got + 1 == g.ghost.grants s) (in_sixteen (g.ghost.first s) (g.ghost.first s)) (eq-eqb (k.got + 1) (g.ghost.grants s) granted) (sixteen (g.ghost.first s)))

    slot-unused : (o : Option Slot) → o ≡ Some sl → LeaveOut (next_given sc.server.durable.next_id k o) g.ghost.kept
    slot-unused o e = subst (λ z. LeaveOut (next_given sc.server.durable.next_id k z) g.ghost.kept) (sym e) (given-unused (is_some k.session) (sl.grants == k.got + 1) refl)

    pub in-unused : LeaveOut (next_object sc c k) g.ghost.kept
    in-unused = go k.ids refl
      where
        go : (xs : List ℕ) → k.ids ≡ xs → LeaveOut (or_else (next_given sc.server.durable.next_id k (slot sc.server.durable c)) (first_id xs)) g.ghost.kept
        go [] e = slot-unused (slot sc.server.durable c) inside.there
        go (x ∷ xs) e = free x (inl (subst (λ z. T (member x z)) (sym e) (subst (λ z. T (z || member x xs)) (sym (same x)) tt)))

-- So it is in a phase.
pub next-unused : (j : Work) (w : World) (sc : Scene) (g : System) (p : Phase) → IsOnLine j w sc g → IsScene w sc → InPhase j sc p → (k : Clerk) → at j.clerk sc.clerks ≡ Some k → LeaveOut (next_object sc j.clerk k) g.ghost.kept
next-unused j w sc g p on scene ip k there = elim (own j sc p ip) [
  | inl n ↦ subst (λ z. LeaveOut (next_object sc j.clerk z) g.ghost.kept) (same_some (sym n.1.there ∙ there)) (new-unused w sc g on.whole seen j.clerk n.1.clerk n.1.new)
  | inr f ↦
      let q = f.3 in
      let start = runs-in w g on.stands j.clerk f.2 (ap (at j.clerk) scene.clerks ∙ q.there) in
      subst (λ z. LeaveOut (next_object sc j.clerk z) g.ghost.kept) (same_some (sym q.there ∙ there)) (in-unused w sc g on.whole seen j.clerk start.0 j.session f.2 f.1 start.2 q.inside q.session)
]
  where
    seen : IsSeen g sc
    seen = scenes-seen w g sc on.stands scene
