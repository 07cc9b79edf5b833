-- A clerk takes the sixteen ids that it was given.
use Rattle.std.proofs.Common.{◌≡◌, refl, sym, subst, ◌∙◌, inl, inr, ◌⊎◌, arith, ℕ, not, T, ◌≤◌, ◌<◌, ◌+◌, List, [], ◌∷◌, ◌++◌}
use Rattle.std.specs.Prelude.{◌==◌, None, Some}
use Rattle.ec_base.specs.Tables.{Table, at}
use Rattle.ec_base.specs.declared.ids.Age.{Age}
use Rattle.ec_volume.specs.Update.{member, operands, distinct}
use Rattle.ec_plain.specs.declared.call.Call.{Call}
use Rattle.ec_history.specs.History.{updates}
use Rattle.ec_sessions.specs.Slots.{run}
use Rattle.ec_sessions.specs.declared.slot.Slot.{Slot}
use Rattle.ec_durable.specs.Durable.{slot}
use Rattle.ec_cache.specs.declared.state.CacheState.{CacheState}
use Rattle.ec_cache.specs.declared.state.Held.{Held}
use Rattle.ec_protocol.specs.declared.clerk.Clerk.{Clerk}
use Rattle.ec_coherence.specs.System.{System, clerk_in, seen, undurable}
use Rattle.ec_coherence.specs.Tokens.{TokensAgree, view, IsWrite}
use Rattle.ec_coherence.specs.Log.{LogAgrees, LogsAgree, IdsAgree, made_by}
use Rattle.ec_coherence.specs.Images.{ImagesAgree}
use Rattle.ec_coherence.proofs.ForBatches.ClerkIn.{was-in}
use Rattle.ec_coherence.proofs.ForBatches.GivenIds.{run-in, in-run, run-distinct}
use Rattle.ec_coherence.proofs.ForBatches.HeldChange as change
use Rattle.ec_coherence.proofs.ForBatches.Ids.{in-front, in-back, in-either}
use Rattle.ec_coherence.proofs.ForServer.Lists.{each-turn, each-at, each-member}
use Rattle.ec_base.proofs.Bools.{left as and_first, not-both as no_both, and-both as and_both, right as and_next, none}

apart-distinct : (xs ys : List ℕ) → T (distinct xs) → T (distinct ys) → ((x : ℕ) → T (member x xs) → T (member x ys) → ⊥) → T (distinct (xs ++ ys))
apart-distinct [] ys d e f = e
apart-distinct (x ∷ xs) ys d e f = and_both (not (member x (xs ++ ys))) (distinct (xs ++ ys))
    (none (member x (xs ++ ys)) (λ m. elim (in-either x xs ys m) [ inl a ↦ no_both (member x xs) a (and_first (not (member x xs)) _ d) | inr a ↦ f x (Rattle.ec_base.proofs.Bools.or_first (x == x) (member x xs) (Rattle.ec_base.proofs.Bools.holds-true (x == x) (Rattle.ec_base.proofs.Numbers.same-self x))) a ]))
    (apart-distinct xs ys (and_next (not (member x xs)) (distinct xs) d) e (λ y m. f y (Rattle.ec_base.proofs.Bools.or-right (y == x) (member y xs) m)))

more-distinct : (first : ℕ) (xs ys : List ℕ) → T (distinct (xs ++ ys)) → ((x : ℕ) → T (member x (xs ++ ys)) → x < first) → T (distinct ((xs ++ run first 16) ++ ys))
more-distinct first [] ys d f = apart-distinct (run first 16) ys (run-distinct first 16) d (λ x m n. let a = (run-in x first 16 m).0 in let b = f x n in absurd (omega arith))
more-distinct first (x ∷ xs) ys d f = and_both (not (member x ((xs ++ run first 16) ++ ys))) (distinct ((xs ++ run first 16) ++ ys))
    (none (member x ((xs ++ run first 16) ++ ys)) (λ m. elim (in-either x (xs ++ run first 16) ys m) [
      | inl a ↦ elim (in-either x xs (run first 16) a) [
        | inl b ↦ no_both (member x (xs ++ ys)) (in-front x xs ys b) (and_first (not (member x (xs ++ ys))) _ d)
        | inr b ↦ (let l = (run-in x first 16 b).0 in let u = f x (Rattle.ec_base.proofs.Bools.or_first (x == x) (member x (xs ++ ys)) (Rattle.ec_base.proofs.Bools.holds-true (x == x) (Rattle.ec_base.proofs.Numbers.same-self x))) in absurd (omega arith))
      ]
      | inr a ↦ no_both (member x (xs ++ ys)) (in-back x xs ys a) (and_first (not (member x (xs ++ ys))) _ d)
    ]))
    (more-distinct first xs ys (and_next (not (member x (xs ++ ys))) (distinct (xs ++ ys)) d) (λ y m. f y (Rattle.ec_base.proofs.Bools.or-right (y == x) (member y (xs ++ ys)) m)))

module _ (g : System) (ta : TokensAgree (view g)) (lo : LogsAgree g) (im : ImagesAgree g) (c s : ℕ) (age : Age) (k : Clerk) (is-owner : g.ghost.owner s ≡ Some (c, age)) (at-start : g.clerks c age.boot ≡ Some k) (sk : k.session ≡ Some s)
    (calls : Table (Table (ℕ × Call))) (first : ℕ) (ch : CacheState) (current : k.got + 1 ≡ g.ghost.grants s) (is-first : first ≡ g.ghost.first s)
    (writes-stay : (x : ℕ) → IsWrite (at x k.cache.held) → IsWrite (at x ch.held)) (images : (x : ℕ) (o : Held) → at x ch.held ≡ Some o → o.image ≡ seen g s x) where
  abbrev pub new : Clerk
  new = record k { got = k.got + 1; asking = None; ids = k.ids ++ run first 16; cache = ch }

  in-g : clerk_in g s ≡ Some k
  in-g = was-in g.ghost.owner g.clerks c s age k new is-owner at-start sk sk

  abbrev ms : List ℕ
  ms = made_by (updates (undurable g.ghost s))

  either : (x : ℕ) → T (member x ((k.ids ++ run first 16) ++ ms)) → T (member x (k.ids ++ ms)) ⊎ T (member x (run first 16))
  either x m = elim (in-either x (k.ids ++ run first 16) ms m) [
    | inl a ↦ elim (in-either x k.ids (run first 16) a) [ inl b ↦ inl (in-front x k.ids ms b) | inr b ↦ inr b ]
    | inr a ↦ inl (in-back x k.ids ms a)
  ]

  ids' : (j : ℕ) (sl : Slot) → slot g.durable j ≡ Some sl → sl.session ≡ s → T sl.is_open → IdsAgree k sl (g.ghost.grants s) (g.ghost.first s) (undurable g.ghost s) → IdsAgree new sl (g.ghost.grants s) (g.ghost.first s) (undurable g.ghost s)
  ids' j sl p q r old = record {
    granted = old.granted;
    last = old.last;
    distinct_ids = more-distinct first k.ids ms old.distinct_ids (λ x m. subst (λ y. x < y) (sym is-first) (each-at (λ y. y < g.ghost.first s) x (k.ids ++ ms) (old.earlier current) m));
    free = each-member (λ x. T (member x sl.unspent)) ((k.ids ++ run first 16) ++ ms) (λ x m. elim (either x m) [
      | inl a ↦ each-at (λ y. T (member y sl.unspent)) x (k.ids ++ ms) old.free a
      | inr a ↦ let z = run-in x first 16 a in lo.whole s x j sl p q r k in-g (current ∙ sym old.granted) (subst (λ y. y ≤ x) is-first z.0) (subst (λ y. x < y + 16) is-first z.1)
    ]);
    earlier = λ e. absurd (omega (arith, current, e));
    all = each-turn (λ x. T (member x (k.ids ++ ms)) ⊎ ((k.got + 1 ≡ g.ghost.grants s) × (g.ghost.first s ≤ x) × (x < g.ghost.first s + 16))) (λ x. T (member x ((k.ids ++ run first 16) ++ ms)) ⊎ ((k.got + 1 + 1 ≡ g.ghost.grants s) × (g.ghost.first s ≤ x) × (x < g.ghost.first s + 16))) sl.unspent
        (λ x o. inl (elim o [
          | inl a ↦ elim (in-either x k.ids ms a) [ inl b ↦ in-front x (k.ids ++ run first 16) ms (in-front x k.ids (run first 16) b) | inr b ↦ in-back x (k.ids ++ run first 16) ms b ]
          | inr z ↦ in-front x (k.ids ++ run first 16) ms (in-back x k.ids (run first 16) (in-run x first 16 (subst (λ y. y ≤ x) (sym is-first) z.1) (subst (λ y. x < y + 16) (sym is-first) z.2)))
        ])) old.all;
  }

  takes : change.Holds g ta lo im c s age k new is-owner at-start sk sk refl calls []
  takes = record {
    writes = λ o n t w. each-turn (λ x. IsWrite (at x k.cache.held)) (λ x. IsWrite (at x ch.held)) (operands o.update) writes-stay w;
    ids = ids';
    rooms = λ e got j sl p q r a f b. absurd (let old : LogAgrees g s sl k = lo.logs s j sl p q r k in-g in omega (arith, a, f.0, current, old.ids.granted));
    got = λ j sl p q r a. absurd (let old : LogAgrees g s sl k = lo.logs s j sl p q r k in-g in omega (arith, a, current, old.ids.granted));
    images = images;
    messages = tt;
  }

  pub taken-logs : LogsAgree (change.h g ta lo im c s age k new is-owner at-start sk sk refl calls [])
  taken-logs = change.held-logs g ta lo im c s age k new is-owner at-start sk sk refl calls [] takes

  pub taken-images : ImagesAgree (change.h g ta lo im c s age k new is-owner at-start sk sk refl calls [])
  taken-images = change.held-images g ta lo im c s age k new is-owner at-start sk sk refl calls [] takes
