-- What is named, and what clerks have in store, behind a change that gives no ids.
use Rattle.std.proofs.Common.{◌≡◌, ◌≢◌, refl, sym, ap, subst, ◌∙◌, inl, inr, ◌⊎◌, ◌+◌, ℕ, Bool, true, false, not, ◌==◌, ◌&&◌, T, List, [], ◌∷◌, Option, Some}
use Rattle.std.specs.Prelude.{drop}
use Rattle.std.proofs.lemmas.Bool.{cases_eq}
use Rattle.ec_base.specs.Tables.{Table}
use Rattle.ec_base.specs.declared.ids.Age.{Age}
use Rattle.ec_volume.specs.Update.{distinct, is_make, member, operands}
use Rattle.ec_volume.specs.declared.update.Update.{Update}
use Rattle.ec_history.specs.History.{Each, History, Op}
use Rattle.ec_history.specs.declared.shown.Shown.{Shown}
use Rattle.ec_wire.specs.declared.msg.Msg.{Msg}
use Rattle.ec_protocol.specs.Clerk.{less_id}
use Rattle.ec_protocol.specs.declared.clerk.Clerk.{Clerk}
use Rattle.ec_coherence.specs.System.{System, clerk_in, seen_ops, with_start}
use Rattle.ec_coherence.specs.Tokens.{Names, in_sixteen, is_hidden, is_untaken, side_in, view}
use Rattle.ec_coherence.specs.ChangeLaws.{Calls}
use Rattle.ec_coherence.proofs.ForBatches.ClerkIn.{now-in, other-in, was-in}
use Rattle.ec_coherence.proofs.ForServer.Lists.{each-at, each-member, each-turn}
use Rattle.ec_coherence.proofs.ForServer.Tables.{same_some}
use Rattle.ec_lawful.specs.OfClerkSteps.Names.{AreOnNamed, NamesAgree}
use Rattle.ec_lawful.specs.OfClerkSteps.Frees.{FreesAgree}
use Rattle.ec_lawful.specs.OfClerkSteps.Zeros.{LeaveOut}
use Rattle.ec_base.proofs.Bools.{left as and_first, right as and_next}

-- Each clerk that is in a session then was in it, with as many ids taken, and has no new ones.
pub record SameStore (g h : System) : Type 0 where
  pub next_id : (view h).next_id ≡ (view g).next_id
  pub origin : h.origin ≡ g.origin
  pub hidden : (t x : ℕ) → is_hidden (view h) t x ≡ is_hidden (view g) t x
  pub ids : (t : ℕ) (m : Clerk) → clerk_in h t ≡ Some m → (n : Clerk) × (clerk_in g t ≡ Some n) × ((x : ℕ) → T (member x m.ids) → T (member x n.ids)) × (T (distinct n.ids) → T (distinct m.ids))

module _ (g h : System) (st : SameStore g h) where
  named : (x : ℕ) → Names (view g) x → Names (view h) x
  named x n = (subst (λ z. Rattle.std.specs.Prelude.◌<◌ x z) (sym st.next_id) n.0, λ t. subst (λ b. T (not b)) (sym (st.hidden t x)) (n.1 t))

  all-named : (os : List Op) → AreOnNamed g os → AreOnNamed h os
  all-named os n = each-turn (λ o. Each (Names (view g)) (operands o.update)) (λ o. Each (Names (view h)) (operands o.update)) os (λ o f. each-turn (Names (view g)) (Names (view h)) (operands o.update) named f) n

  pub names-stay : NamesAgree g → AreOnNamed g h.ghost.kept → ((s : ℕ) (ks : List Op) → h.ghost.frozen s ≡ Some ks → AreOnNamed g ks) → NamesAgree h
  names-stay na kept frozen = record {
    root = named Rattle.ec_volume.specs.Update.root na.root;
    origin = λ x. subst (λ v. Each (λ e. Names (view h) e.1) (Rattle.ec_volume.specs.Image.entries_of (v x))) (sym st.origin)
        (each-turn (λ z. Names (view g) z.1) (λ z. Names (view h) z.1) (Rattle.ec_volume.specs.Image.entries_of (g.origin x)) (λ z f. named z.1 f) (na.origin x));
    kept = all-named h.ghost.kept kept;
    frozen = λ s ks p. all-named ks (frozen s ks p);
    ids = λ t m p. let n = st.ids t m p in each-member (Names (view h)) m.ids (λ x i. named x (each-at (Names (view g)) x (n.0).ids (na.ids t n.0 n.1) (n.2 x i)));
  }

  pub frees-stay : FreesAgree g
      → ((t x : ℕ) (m : Clerk) → clerk_in h t ≡ Some m → T (member x m.ids) ⊎ T (is_hidden (view g) t x) → LeaveOut x (seen_ops (g.ghost.frozen t) g.ghost.kept) → LeaveOut x (seen_ops (h.ghost.frozen t) h.ghost.kept)) → FreesAgree h
  frees-stay fr more = record {
    unused = λ t x m p i.
        let n = st.ids t m p in
        let was : T (member x m.ids) ⊎ T (is_hidden (view g) t x) = elim i [ inl a ↦ inl a | inr a ↦ inr (subst T (st.hidden t x) a) ] in
        let f = fr.unused t x n.0 n.1 (elim was [ inl a ↦ inl (n.2 x a) | inr a ↦ inr a ]) in
        (more t x m p was f.0, ap (λ v. v x) st.origin ∙ f.1);
    once = λ t m p. let n = st.ids t m p in n.3 (fr.once t n.0 n.1);
  }

-- Ids that are left.

pub in-left : (x : ℕ) (u : Update) (ids : List ℕ) → T (member x (less_id u ids)) → T (member x ids)
in-left x u ids m = go (is_make u) m
  where
    drops : (xs : List ℕ) → T (member x (drop 1 xs)) → T (member x xs)
    drops [] m = m
    drops (y ∷ ys) m = Rattle.ec_base.proofs.Bools.or-right (x == y) (member x ys) m

    go : (b : Bool) → T (member x (elim b as (λ z. List ℕ) [ true ↦ drop 1 ids | false ↦ ids ])) → T (member x ids)
    go true m = drops ids m
    go false m = m

pub once-left : (u : Update) (ids : List ℕ) → T (distinct ids) → T (distinct (less_id u ids))
once-left u ids d = go (is_make u)
  where
    drops : (xs : List ℕ) → T (distinct xs) → T (distinct (drop 1 xs))
    drops [] d = d
    drops (y ∷ ys) d = and_next (not (member y ys)) (distinct ys) d

    go : (b : Bool) → T (distinct (elim b as (λ z. List ℕ) [ true ↦ drop 1 ids | false ↦ ids ]))
    go true = drops ids d
    go false = d

-- Of a clerk in its session.
module _ (g : System) (c s : ℕ) (age : Age) (k now : Clerk) (owns : g.ghost.owner s ≡ Some (c, age)) (stands : g.clerks c age.boot ≡ Some k) (in_it : k.session ≡ Some s) (still : now.session ≡ Some s) (got : now.got ≡ k.got)
    (fewer : (x : ℕ) → T (member x now.ids) → T (member x k.ids)) (once : T (distinct k.ids) → T (distinct now.ids))
    (calls : Calls) (p : List (ℕ × Msg)) (ks : List Op) (fz : ℕ → Option (List Op)) (sh : List Shown) (hi : History) (fr : Table ℕ) where
  abbrev pub h : System
  h = record g { clerks = with_start c age.boot now g.clerks; calls = calls; pool = p; ghost = record (g.ghost) { kept = ks; frozen = fz; shown = sh; history = hi; fresh = fr } }

  there : clerk_in g s ≡ Some k
  there = was-in g.ghost.owner g.clerks c s age k now owns stands in_it still

  there-now : clerk_in h s ≡ Some now
  there-now = now-in g.ghost.owner g.clerks c s age k now owns stands in_it still

  other : (t : ℕ) → t ≢ s → clerk_in h t ≡ clerk_in g t
  other t d = other-in g.ghost.owner g.clerks c s age k now owns stands in_it still t d

  same-hidden : (t x : ℕ) → is_hidden (view h) t x ≡ is_hidden (view g) t x
  same-hidden t x = elim (cases_eq t s) [
    | inl e ↦ subst (λ z. is_hidden (view h) z x ≡ is_hidden (view g) z x) (sym e)
        (ap (λ o. is_untaken (g.ghost.grants s) (g.ghost.first s) (side_in o) x) there-now ∙ ap (λ n. (n + 1 == g.ghost.grants s) && in_sixteen (g.ghost.first s) x) got
        ∙ sym (ap (λ o. is_untaken (g.ghost.grants s) (g.ghost.first s) (side_in o) x) there))
    | inr d ↦ ap (λ o. is_untaken (g.ghost.grants t) (g.ghost.first t) (side_in o) x) (other t d)
  ]

  pub session-store : SameStore g h
  session-store = record {
    next_id = refl;
    origin = refl;
    hidden = same-hidden;
    ids = λ t m q. elim (cases_eq t s) [
      | inl e ↦
          let is : now ≡ m = same_some (sym there-now ∙ ap (clerk_in h) (sym e) ∙ q) in
          (k, ap (clerk_in g) e ∙ there, (λ x i. fewer x (subst (λ z. T (member x z.ids)) (sym is) i)), (λ d. subst (λ z. T (distinct z.ids)) is (once d)))
      | inr d ↦ (m, sym (other t d) ∙ q, (λ x i. i), (λ d. d))
    ];
  }
