-- A clerk answers a call: the images that it holds change, and what was touched is the most recently used.
use Rattle.std.proofs.Common.{◌≡◌, refl, sym, ap, subst, ◌∙◌, inl, arith, ℕ, Bool, true, false, cond, T, ◌≤◌, List, [], ◌∷◌}
use Rattle.std.specs.Prelude.{◌==◌, Option, None, Some, drop}
use Rattle.ec_base.specs.Tables.{at, renewed}
use Rattle.ec_volume.specs.Update.{operands, effect}
use Rattle.ec_volume.specs.declared.update.Update.{Update}
use Rattle.ec_wire.specs.Messages.{is_held_mode}
use Rattle.ec_cache.specs.Cache as cache
use Rattle.ec_cache.specs.Cache.{last}
use Rattle.ec_cache.specs.declared.state.CacheState.{CacheState}
use Rattle.ec_cache.specs.declared.state.Held.{Held}
use Rattle.ec_protocol.specs.declared.clerk.Out.TheVariants as out
use Rattle.ec_history.specs.declared.entry.Answer.{Answer}
use Rattle.ec_protocol.specs.Clerk.{Doing, emit, with_clerk, with_cache, with_update}
use Rattle.ec_coherence.specs.Clerks.{acting}
use Rattle.ec_coherence.specs.Tokens.{View, Side, side, eff, TokensAgree}
use Rattle.ec_coherence.proofs.ForClerk.Acting.{is-in}
use Rattle.ec_coherence.proofs.ForClerk.Goes.{Goes, goes-move, goes-show}
use Rattle.ec_coherence.proofs.ForClerk.OneObject.{still-moves}
use Rattle.ec_coherence.proofs.ForClerk.Rows.{Fewer, Moved}
use Rattle.ec_coherence.proofs.ForClerk.Sides.{Moves}
use Rattle.ec_base.proofs.Numbers.{equal}
use Rattle.ec_coherence.proofs.ForClerk.CacheChange.{at-renewed}
use Rattle.ec_cache.proofs.CacheLemmas.{all-used-lasts}

-- the same token, perhaps with another image
abbrev pub Alike : Option Held → Option Held → Type 0
Alike None None = Rattle.std.specs.Prelude.⊤
Alike None (Some d) = ⊥
Alike (Some c) None = ⊥
Alike (Some c) (Some d) = (d.hold ≡ c.hold) × (d.number ≡ c.number)

alike-self : (o : Option Held) → Alike o o
alike-self None = tt
alike-self (Some d) = (refl, refl)

alike-on : (o p q : Option Held) → Alike o p → Alike p q → Alike o q
alike-on None None q a b = b
alike-on None (Some d) q a b = absurd a
alike-on (Some c) None q a b = absurd a
alike-on (Some c) (Some d) None a b = b
alike-on (Some c) (Some d) (Some e) a b = (b.0 ∙ a.0, b.1 ∙ a.1)

used-held : (y x : ℕ) (k : CacheState) → at y (cache.used x k).held ≡ at y k.held
used-held y x k = go (at x k.held) refl
  where
    same-one : (h : Held) → at x k.held ≡ Some h → (b : Bool) → (y == x) ≡ b → cond b (Some h) (at y k.held) ≡ at y k.held
    same-one h p true q = sym (ap (λ z. at z k.held) (equal y x q) ∙ p)
    same-one h p false q = refl

    go : (o : Option Held) → at x k.held ≡ o → at y (elim o as (λ z. CacheState) [ None ↦ k | Some h ↦ record k { held = renewed x h k.held } ]).held ≡ at y k.held
    go None p = refl
    go (Some h) p = at-renewed y x h k.held ∙ same-one h p (y == x) refl

all-used-held : (y : ℕ) (xs : List ℕ) (k : CacheState) → at y (cache.all_used xs k).held ≡ at y k.held
all-used-held y [] k = refl
all-used-held y (x ∷ xs) k = all-used-held y xs (cache.used x k) ∙ used-held y x k

module _ (u : Update) where
  changed-held : (y x : ℕ) (k : CacheState) → Alike (at y k.held) (at y (cache.change_at u x k).held)
  changed-held y x k = go (at x k.held) refl
    where
      one : (h : Held) → at x k.held ≡ Some h → (b : Bool) → (y == x) ≡ b → Alike (at y k.held) (cond b (Some (record h { image = effect u x h.image })) (at y k.held))
      one h p true q = subst (λ o. Alike o (Some (record h { image = effect u x h.image }))) (sym (ap (λ z. at z k.held) (equal y x q) ∙ p)) (refl, refl)
      one h p false q = alike-self (at y k.held)

      go : (o : Option Held) → at x k.held ≡ o → Alike (at y k.held) (at y (elim o as (λ z. CacheState) [ None ↦ k | Some h ↦ record k { held = renewed x (record h { image = effect u x h.image }) k.held } ]).held)
      go None p = alike-self (at y k.held)
      go (Some h) p = subst (Alike (at y k.held)) (sym (at-renewed y x (record h { image = effect u x h.image }) k.held)) (one h p (y == x) refl)

  changed-lasts : (x : ℕ) (k : CacheState) → (cache.change_at u x k).lasts ≡ k.lasts
  changed-lasts x k = go (at x k.held)
    where
      go : (o : Option Held) → (elim o as (λ z. CacheState) [ None ↦ k | Some h ↦ record k { held = renewed x (record h { image = effect u x h.image }) k.held } ]).lasts ≡ k.lasts
      go None = refl
      go (Some h) = refl

  all-changed-held : (y : ℕ) (xs : List ℕ) (k : CacheState) → Alike (at y k.held) (at y (cache.change u xs k).held)
  all-changed-held y [] k = alike-self (at y k.held)
  all-changed-held y (x ∷ xs) k = alike-on (at y k.held) (at y (cache.change_at u x k).held) _ (changed-held y x k) (all-changed-held y xs (cache.change_at u x k))

  all-changed-lasts : (xs : List ℕ) (k : CacheState) → (cache.change u xs k).lasts ≡ k.lasts
  all-changed-lasts [] k = refl
  all-changed-lasts (x ∷ xs) k = all-changed-lasts xs (cache.change_at u x k) ∙ changed-lasts x k

alike-fewer : (o p : Option Held) (l : ℕ) → ((d : Held) → o ≡ Some d → T (is_held_mode d.hold)) → Alike o p → Fewer o p l l
alike-fewer None None l f a = tt
alike-fewer None (Some d) l f a = absurd a
alike-fewer (Some c) None l f a = tt
alike-fewer (Some c) (Some d) l f a = (a.1, same-rank d.hold c.hold a.0, subst (λ h. T (is_held_mode h)) (sym a.0) (f c refl), refl)
  where
    same-rank : (a b : _) → a ≡ b → Rattle.ec_base.specs.Holds.rank a ≤ Rattle.ec_base.specs.Holds.rank b
    same-rank a b p = let q = ap Rattle.ec_base.specs.Holds.rank p in omega arith

-- The clerk's tokens and numbers stay, whatever images it holds.
pub alike-moves : (w : View) (s : ℕ) (k k' : Side) → TokensAgree w → w.clerk s ≡ Some k → k'.epoch ≡ k.epoch → k'.got ≡ k.got → k'.recalls ≡ k.recalls → ((y : ℕ) → Alike (at y k.cache.held) (at y k'.cache.held))
    → ((y : ℕ) → last y k'.cache ≡ last y k.cache) → Moves w s k k'
alike-moves w s k k' agree was epoch got recalls held number = record {
  was = was;
  epoch = epoch;
  got = inl got;
  row = λ y. subst (λ n. Moved (at y k.cache.held) (at y k'.cache.held) (last y k.cache) n k.epoch (eff w s y)) (sym (number y))
      (omega arith, inl (alike-fewer (at y k.cache.held) (at y k'.cache.held) (last y k.cache) (agree.holds s y k was) (held y)));
  lasts = λ y. inl (number y);
  recalls = subst (Rattle.ec_history.specs.History.Each (λ r. Rattle.ec_coherence.specs.Tokens.Names w r.obj)) (sym recalls) (agree.recalled s k was);
}

module _ (w : View) (c s : ℕ) (d e : Doing) (g : Goes w c s d e) where
  pub goes-used : (xs : List ℕ) → Goes w c s d (with_cache (cache.all_used xs) e)
  goes-used xs = goes-move w c s d e g (record (e.clerk) { cache = cache.all_used xs e.clerk.cache }) refl refl
      (still-moves (acting w c s e) s (side e.clerk) (side (record (e.clerk) { cache = cache.all_used xs e.clerk.cache })) g.agree (is-in w c s e) refl refl
      (λ y. all-used-held y xs e.clerk.cache) (λ y. ap (Rattle.ec_base.specs.Tables.at_or 0 y) (all-used-lasts xs e.clerk.cache)) (g.agree.recalled s (side e.clerk) (is-in w c s e)))

  -- the clerk's part of an update, while the images to be seen are still the old ones
  pub goes-update : (u : Update) → Goes w c s d (with_clerk (with_update u) e)
  goes-update u = goes-move w c s d e g (with_update u e.clerk) refl refl
      (alike-moves (acting w c s e) s (side e.clerk) (side (with_update u e.clerk)) g.agree (is-in w c s e) refl refl refl
      (λ y. all-changed-held u y (operands u) e.clerk.cache) (λ y. ap (Rattle.ec_base.specs.Tables.at_or 0 y) (all-changed-lasts u (operands u) e.clerk.cache)))

  pub goes-answer : (n : ℕ) (a : Answer) (op : Option ℕ) → Goes w c s d (emit (out.Answer n a op) e)
  goes-answer n a op = goes-show w c s d e g (out.Answer n a op) refl
