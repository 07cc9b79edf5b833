-- What is named stays so behind each step that follows.
use Rattle.std.proofs.Common.{◌≡◌, refl, sym, ap, subst, ◌∙◌, inl, inr, arith, ◌≤◌, ◌<◌, ◌+◌, ℕ, Bool, true, false, not, ◌&&◌, ◌==◌, T, List, []}
use Rattle.std.specs.Prelude.{Option, None, Some}
use Rattle.ec_base.specs.declared.ids.Age.{Age}
use Rattle.ec_volume.specs.Image.{entries_of}
use Rattle.ec_volume.specs.Update.{operands, root}
use Rattle.ec_history.specs.History.{Each, Op}
use Rattle.ec_protocol.specs.declared.clerk.Clerk.{Clerk}
use Rattle.ec_coherence.specs.System.{System, clerk_in, clerk_of}
use Rattle.ec_coherence.specs.Tokens.{Names, in_sixteen, is_hidden, is_untaken, side, side_in, view}
use Rattle.ec_coherence.proofs.ForServer.Lists.{each-turn}
use Rattle.ec_coherence.proofs.ForServer.Tables.{differ}
use Rattle.ec_lawful.specs.OfClerkSteps.Names.{AreOnNamed, NamesAgree}
use Rattle.ec_lawful.specs.OfClerkSteps.Orderly.{OrderlyAgree}
use Rattle.ec_lawful.specs.OfClerkSteps.Follows.{Follows}
use Rattle.ec_base.proofs.Options.{none_some}

not-and : (a b : Bool) → a ≡ false → T (not (a && b))
not-and a b e = go a b e
  where
    go : (a b : Bool) → a ≡ false → T (not (a && b))
    go true b e = absurd (cc)
    go false b e = tt

not-later : (a b : Bool) → b ≡ false → T (not (a && b))
not-later true b e = go b e
  where
    go : (b : Bool) → b ≡ false → T (not b)
    go true e = absurd (cc)
    go false e = tt
not-later false b e = tt

below-sixteen : (f x : ℕ) → x < f → in_sixteen f x ≡ false
below-sixteen f x l = grind arith

module _ (g h : System) (na : NamesAgree g) (f : Follows g h) where
  shown : (t x : ℕ) → Names (view g) x → T (not (is_hidden (view h) t x))
  shown t x n = by (clerk_in h t) refl
    where
      was : (k m : Clerk) → clerk_in g t ≡ Some m → k.got ≡ m.got → T (not (is_untaken (h.ghost.grants t) (h.ghost.first t) (Some (side k)) x))
      was k m p e = elim ((f.ghosts).given t) [
        | inl s ↦
            subst (λ z. T (not ((z + 1 == h.ghost.grants t) && in_sixteen (h.ghost.first t) x))) (sym e)
            (subst (λ z. T (not ((m.got + 1 == z) && in_sixteen (h.ghost.first t) x))) (sym s.0)
            (subst (λ z. T (not ((m.got + 1 == g.ghost.grants t) && in_sixteen z x))) (sym s.1) (subst (λ o. T (not (is_untaken (g.ghost.grants t) (g.ghost.first t) (side_in o) x))) p (n.1 t))))
        | inr l ↦ not-later (k.got + 1 == h.ghost.grants t) (in_sixteen (h.ghost.first t) x) (below-sixteen (h.ghost.first t) x (let a = n.0 in omega arith))
      ]

      by : (o : Option Clerk) → clerk_in h t ≡ o → T (not (is_untaken (h.ghost.grants t) (h.ghost.first t) (side_in o) x))
      by None e = tt
      by (Some k) e = elim (f.clerks t k e) [
        | inl w ↦ was k w.0 w.1 w.2
        | inr w ↦ not-and (k.got + 1 == h.ghost.grants t) (in_sixteen (h.ghost.first t) x) (differ (k.got + 1) (h.ghost.grants t) w.1)
      ]

  named : (x : ℕ) → Names (view g) x → Names (view h) x
  named x n = ((let a = n.0 in let b = f.next in omega arith), λ t. shown t x n)

  on-named : (os : List Op) → AreOnNamed g os → AreOnNamed h os
  on-named os a = each-turn (λ o. Each (Names (view g)) (operands o.update)) (λ o. Each (Names (view h)) (operands o.update)) os (λ o i. each-turn (Names (view g)) (Names (view h)) (operands o.update) named i) a

  pub names-follow : NamesAgree h
  names-follow = record {
    root = named root na.root;
    origin = λ x. subst (λ o. Each (λ e. Names (view h) e.1) (entries_of (o x))) (sym f.origin) (each-turn (λ e. Names (view g) e.1) (λ e. Names (view h) e.1) (entries_of (g.origin x)) (λ e i. named e.1 i) (na.origin x));
    kept = on-named h.ghost.kept (f.ghosts).kept;
    frozen = λ s ks p. on-named ks ((f.ghosts).frozen s ks p);
    ids = λ s k e. elim (f.clerks s k e) [
      | inl w ↦ each-turn (Names (view g)) (Names (view h)) k.ids named (w.3 (na.ids s w.0 w.1))
      | inr w ↦ subst (Each (Names (view h))) (sym w.0) tt
    ];
  }

-- Nothing that they read changes.
module _ (g h : System) (na : NamesAgree g) (origin : h.origin ≡ g.origin) (clerks : h.clerks ≡ g.clerks) (next : g.durable.next_id ≤ h.durable.next_id) (kept : h.ghost.kept ≡ g.ghost.kept) (frozen : h.ghost.frozen ≡ g.ghost.frozen)
    (owner : h.ghost.owner ≡ g.ghost.owner) (grants : h.ghost.grants ≡ g.ghost.grants) (first : h.ghost.first ≡ g.ghost.first) where
  same-in : (s : ℕ) → clerk_in h s ≡ clerk_in g s
  same-in s = ap (λ o. clerk_of s (o s) h.clerks) owner ∙ ap (clerk_of s (g.ghost.owner s)) clerks

  pub names-read : NamesAgree h
  names-read = names-follow g h na (record {
    origin = origin;
    next = next;
    ghosts = record {
      kept = subst (AreOnNamed g) (sym kept) na.kept;
      frozen = λ s ks p. na.frozen s ks (ap (λ f. f s) (sym frozen) ∙ p);
      given = λ s. inl (ap (λ f. f s) grants, ap (λ f. f s) first);
    };
    clerks = λ s k p. inl (k, sym (same-in s) ∙ p, refl, λ i. i);
  })

-- At the beginning.
module _ (g : System) (clerks : g.clerks ≡ (λ c b. None)) (kept : g.ghost.kept ≡ []) (frozen : (s : ℕ) (ks : List Op) → g.ghost.frozen s ≡ Some ks → ks ≡ []) (is-root : root < g.durable.next_id)
    (entries : (x : ℕ) → Each (λ e. e.1 < g.durable.next_id) (entries_of (g.origin x))) where
  nobody : (s : ℕ) → clerk_in g s ≡ None
  nobody s = ap (clerk_of s (g.ghost.owner s)) clerks ∙ go (g.ghost.owner s)
    where
      go : (o : Option (ℕ × Age)) → clerk_of s o (λ c b. None) ≡ None
      go None = refl
      go (Some o) = refl

  all-named : (x : ℕ) → x < g.durable.next_id → Names (view g) x
  all-named x l = (l, λ t. subst (λ o. T (not (is_untaken (g.ghost.grants t) (g.ghost.first t) (side_in o) x))) (sym (nobody t)) tt)

  pub names-begin : NamesAgree g × OrderlyAgree g
  names-begin = (
    record {
      root = all-named root is-root;
      origin = λ x. each-turn (λ e. e.1 < g.durable.next_id) (λ e. Names (view g) e.1) (entries_of (g.origin x)) (λ e l. all-named e.1 l) (entries x);
      kept = subst (AreOnNamed g) (sym kept) tt;
      frozen = λ s ks p. subst (AreOnNamed g) (sym (frozen s ks p)) tt;
      ids = λ s k p. absurd (none_some (sym (nobody s) ∙ p));
    },
    record { each = λ c b k p. absurd (none_some (sym (ap (λ f. f c b) clerks) ∙ p)) },
  )
