-- A call on a volume that the cache shows.
use Rattle.std.proofs.Common.{◌≡◌, refl, sym, ap, ◌∙◌, subst, arith, ℕ, T, Bool, true, false, not, ◌&&◌, ◌||◌, List, [], ◌∷◌, ◌++◌, inl, inr}
use Rattle.std.specs.Prelude.{Some, ◌==◌}
use Rattle.std.specs.List.{list_all}
use Rattle.std.proofs.lemmas.Bool.{eq-eqb}
use Rattle.ec_base.specs.Tables.{or_else}
use Rattle.ec_base.specs.Holds.{is_below}
use Rattle.ec_base.specs.declared.ids.Hold.{Hold}
use Rattle.ec_base.specs.declared.ids.Hold.TheVariants.{Free, Read, Write}
use Rattle.ec_volume.specs.Update.{fits, is_sound, member, operands}
use Rattle.ec_volume.specs.Volume.{Fits, Images}
use Rattle.ec_volume.specs.declared.update.Update.{Update}
use Rattle.ec_history.proofs.OfLaws.ForFormed.Laws.{call-sound}
use Rattle.ec_history.proofs.OfLaws.ForFormed.Planned.{call-fine}
use Rattle.ec_history.proofs.OfLaws.ForFormed.Renamed.{rename-fine}
use Rattle.ec_history.proofs.OfLaws.ForPlacing.Touching.{plain-touches}
use Rattle.ec_plain.specs.Plain.{plain}
use Rattle.ec_plain.specs.declared.call.Outcome.{Outcome}
use Rattle.ec_cache.specs.Cache.{counted, holds, images_held}
use Rattle.ec_machine_laws.proofs.Needing.{needed-touched, needed-unheld}
use Rattle.ec_cache.specs.OfResolve.Agreement.{IsFor}
use Rattle.ec_cache.specs.declared.resolve.verdict.Verdict.TheVariants.{Done, Need}
use Rattle.ec_cache.proofs.OfResolve.Verdicts.{done-ready, done-says}
use Rattle.ec_protocol.specs.Clerk.{first_id, suits, verdict}
use Rattle.ec_protocol.specs.declared.clerk.Clerk.{Clerk}
use Rattle.ec_protocol.specs.declared.clerk.Waiting.{Waiting}
use Rattle.ec_quiet.specs.Works.{Work}
use Rattle.ec_quiet.specs.Goes.{MayGo}
use Rattle.ec_complete.specs.OfAgreedLines.Room.{IsRoomy, fresh_in}
use Rattle.ec_complete.proofs.OfAgreedLines.Crowded.{crowded}
use Rattle.ec_complete.specs.OfAgreedLines.Shown.{IsCalling, IsShown, next_id}
use Rattle.ec_log.proofs.OfChains.Chained.{member-left}
use Rattle.ec_base.proofs.Bools.{is-true}

-- Holding for writing is holding in any mode.

any-mode : (g h : Hold) → T (not (is_below g Write)) → T (not (is_below g h))
any-mode Free h t = absurd t
any-mode Read h t = absurd t
any-mode Write Free t = tt
any-mode Write Read t = tt
any-mode Write Write t = tt

-- Lists.

all-of : (p : ℕ → Bool) (xs : List ℕ) → ((x : ℕ) → T (member x xs) → p x ≡ true) → list_all p xs ≡ true
all-of p [] f = refl
all-of p (x ∷ xs) f = both (p x) (list_all p xs) (f x here) (all-of p xs (λ y t. f y (later y t)))
  where
    both : (a b : Bool) → a ≡ true → b ≡ true → (a && b) ≡ true
    both true b e f = f
    both false b e f = e

    here : T (member x (x ∷ xs))
    here = go (x == x) (eq-eqb x x refl)
      where
        go : (b : Bool) → b ≡ true → T (b || member x xs)
        go true e = tt
        go false e = absurd (grind (arith, e))

    later : (y : ℕ) → T (member y xs) → T (member y (x ∷ xs))
    later y t = go (y == x)
      where
        go : (b : Bool) → T (b || member y xs)
        go true = tt
        go false = t

behind : (x : ℕ) (xs ys : List ℕ) → T (member x ys) → T (member x (xs ++ ys))
behind x [] ys t = t
behind x (y ∷ xs) ys t = go (x == y) (behind x xs ys t)
  where
    go : (b : Bool) → T (member x (xs ++ ys)) → T (b || member x (xs ++ ys))
    go true t = tt
    go false t = t

first-in : (x : ℕ) (xs : List ℕ) → first_id xs ≡ Some x → T (member x xs)
first-in x [] e = absurd (grind (arith, e))
first-in x (y ∷ xs) e = let same : y ≡ x = (cc) in go (x == y) (eq-eqb x y (sym same))
  where
    go : (b : Bool) → b ≡ true → T (b || member x xs)
    go true e = tt
    go false e = absurd (grind (arith, e))

module _ (j : Work) (w : Waiting) (k : Clerk) (v : Images) (i : IsCalling j w k) (s : IsShown j w k v) where
  abbrev id : ℕ
  id = next_id k

  abbrev there : Outcome
  there = plain v w.call id

  own-id : IsFor (first_id k.ids) id
  own-id x e = ap (or_else 0) e

  touches : (x : ℕ) (h : Hold) → verdict w.call k ≡ Need x h → T (member x j.touched)
  touches x h e = elim (s.touched x (needed-touched k.cache k.owed w.call (first_id k.ids) x h e v s.shows id own-id)) [
    | inl t ↦ t
    | inr f ↦ absurd (unheld (any-mode (counted x k.cache) h f.1) (needed-unheld k.cache k.owed w.call (first_id k.ids) x h e))
  ]
    where
      unheld : T (holds x h k.cache) → holds x h k.cache ≡ false → ⊥
      unheld t e = subst T e t

  module _ (o : Outcome) (done : verdict w.call k ≡ Done o) where
    same : there ≡ o
    same = done-says k.cache k.owed w.call (first_id k.ids) o done v s.shows id own-id

    of-line : (x : ℕ) → T (member x there.touched) → T (member x (fresh_in j k))
    of-line x t = elim (s.touched x t) [ inl m ↦ member-left x j.touched k.ids m | inr f ↦ behind x j.touched k.ids (first-in x k.ids f.0) ]

    pub uses : (x : ℕ) → T (member x o.touched) → T (member x (fresh_in j k))
    uses x t = of-line x (subst (λ z. T (member x z.touched)) (sym same) t)

    module _ (u : Update) (is : o.update ≡ Some u) where
      issued : there.update ≡ Some u
      issued = ap (λ z. z.update) same ∙ is

      pub changes : (x : ℕ) → T (member x (operands u)) → T (member x (fresh_in j k))
      changes x t = of-line x (plain-touches v w.call id u issued x t)

      sound : T (is_sound u)
      sound = call-sound v w.call id u s.formed s.gone s.bounded issued

      fitting : Fits v (u ∷ [])
      fitting = (call-fine v s.formed (rename-fine v s.formed) w.call id s.gone u issued).fitting

      alone : (a b : Bool) → T a → T ((not a || b) && true) → T b
      alone true true m t = tt
      alone true false m t = absurd t
      alone false b m t = absurd m

      fits-held : (x : ℕ) → T (member x (operands u)) → fits u x (images_held k.cache x) ≡ true
      fits-held x t =
          let writes : T (holds x Write k.cache) = (done-ready k.cache k.owed w.call (first_id k.ids) o done).written u is x t in
          let shown : v x ≡ images_held k.cache x = s.shows.images x (any-mode (counted x k.cache) Read writes) in
          ap (fits u x) (sym shown) ∙ is-true (fits u x (v x)) (alone (member x (operands u)) (fits u x (v x)) t (fitting x))

      pub may-issue : suits u k.cache ≡ true
      may-issue = both (is_sound u) (list_all (λ x. fits u x (images_held k.cache x)) (operands u)) (is-true (is_sound u) sound) (all-of (λ x. fits u x (images_held k.cache x)) (operands u) fits-held)
        where
          both : (a b : Bool) → a ≡ true → b ≡ true → (a && b) ≡ true
          both true b e f = f
          both false b e f = e

  roomy : IsRoomy j w k
  roomy = record { pinned = i.pinned; stay = i.stay; once = i.once; capacity = i.capacity; room = i.room; uses = uses; changes = λ o u done is. changes o done u is }

  pub may-go : MayGo j k
  may-go = record {
    call = w;
    is = i.is;
    waits = record { waiting = i.waiting; pushes = i.pushes; begun = i.begun; behind = i.behind; issues = λ o u done is. (may-issue o done u is, i.small) };
    counters = i.counters;
    touches = touches;
    evicts = crowded j w k i.aged i.unowed roomy;
  }
