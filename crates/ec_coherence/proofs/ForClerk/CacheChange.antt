-- What a clerk holds behind an update, and which ids are left.
use Rattle.std.proofs.Common.{◌≡◌, refl, sym, ap, subst, ◌∙◌, inl, inr, ℕ, Bool, true, false, not, ◌||◌, cond, T, List, [], ◌∷◌, ◌++◌}
use Rattle.std.specs.Prelude.{◌==◌, Option, None, Some}
use Rattle.std.specs.Cmp.{unsigned_ties}
use Rattle.ec_base.specs.Tables.{Table, at, without, renewed}
use Rattle.ec_volume.specs.Update.{member, operands, has_operand, effect, fits, distinct, is_sound, listed}
use Rattle.ec_volume.specs.Volume.{image_next}
use Rattle.ec_volume.specs.declared.update.Update.{Update}
use Rattle.ec_volume.specs.declared.update.Update.TheVariants.{Make, Drop, Move, Put, Len, Mode, Stamp, Order, Shift, Owner}
use Rattle.ec_base.specs.Holds.{is_write}
use Rattle.ec_durable.specs.Durable.{made}
use Rattle.ec_cache.specs.Cache as cache
use Rattle.ec_cache.specs.declared.state.CacheState.{CacheState}
use Rattle.ec_cache.specs.declared.state.Held.{Held}
use Rattle.ec_protocol.specs.Clerk.{less_id, first_id, suits}
use Rattle.ec_coherence.specs.Tokens.{IsWrite}
use Rattle.ec_coherence.proofs.ForServer.Tables.{at-without, same_some}
use Rattle.std.specs.List.{list_all}
use Rattle.ec_base.proofs.Bools.{left as and_first, not-both as no_both, right as and_next, or_first, is-true}
use Rattle.ec_base.proofs.Options.{none_some, or_last}
use Rattle.ec_base.proofs.Numbers.{equal}

pub at-cons : {X : Type 0} (j : ℕ) (e : ℕ × X) (es : Table X) → at j (e ∷ es) ≡ cond (j == e.0) (Some e.1) (at j es)
at-cons j e es = sym (ap (λ b. cond b (Some e.1) (at j es)) (unsigned_ties j e.0))

pub at-end : {X : Type 0} (j k : ℕ) (v : X) (es : Table X) → at j (es ++ (k, v) ∷ []) ≡ or_last (at j es) (cond (j == k) (Some v) None)
at-end j k v [] = at-cons j (k, v) []
at-end j k v (e ∷ es) = at-cons j e (es ++ (k, v) ∷ []) ∙ ap (cond (j == e.0) (Some e.1)) (at-end j k v es) ∙ go (j == e.0) ∙ ap (λ o. or_last o (cond (j == k) (Some v) None)) (sym (at-cons j e es))
  where
    go : (b : Bool) → cond b (Some e.1) (or_last (at j es) (cond (j == k) (Some v) None)) ≡ or_last (cond b (Some e.1) (at j es)) (cond (j == k) (Some v) None)
    go true = refl
    go false = refl

pub at-renewed : {X : Type 0} (j k : ℕ) (v : X) (es : Table X) → at j (renewed k v es) ≡ cond (j == k) (Some v) (at j es)
at-renewed j k v es = at-end j k v (without k es) ∙ ap (λ o. or_last o (cond (j == k) (Some v) None)) (at-without j k es) ∙ go (j == k) (at j es)
  where
    go : (b : Bool) (o : Option _) → or_last (cond b None o) (cond b (Some v) None) ≡ cond b (Some v) o
    go true o = refl
    go false None = refl
    go false (Some x) = refl

-- what is held, with the update's effect where it has one
abbrev pub affected : Update → ℕ → Bool → Option Held → Option Held
affected u y false o = o
affected u y true None = None
affected u y true (Some h) = Some (record h { image = effect u y h.image })

at-one : (u : Update) (x y : ℕ) (k : CacheState) → at y (cache.change_at u x k).held ≡ affected u y (y == x) (at y k.held)
at-one u x y k = go (at x k.held) refl
  where
    none : (a : Bool) → (y == x) ≡ a → at x k.held ≡ None → at y k.held ≡ affected u y a (at y k.held)
    none false e p = refl
    none true e p = there ∙ sym (ap (affected u y true) there)
      where
        there : at y k.held ≡ None
        there = ap (λ z. at z k.held) (equal y x e) ∙ p

    some : (h : Held) (a : Bool) → (y == x) ≡ a → at x k.held ≡ Some h → cond a (Some (record h { image = effect u x h.image })) (at y k.held) ≡ affected u y a (at y k.held)
    some h false e p = refl
    some h true e p = ap (λ z. Some (record h { image = effect u z h.image })) (sym (equal y x e)) ∙ sym (ap (affected u y true) (ap (λ z. at z k.held) (equal y x e) ∙ p))

    go : (o : Option Held) → at x k.held ≡ o → at y (elim o as (λ z. CacheState) [ None ↦ k | Some h ↦ record k { held = renewed x (record h { image = effect u x h.image }) k.held } ]).held ≡ affected u y (y == x) (at y k.held)
    go None p = none (y == x) refl p
    go (Some h) p = at-renewed y x (record h { image = effect u x h.image }) k.held ∙ some h (y == x) refl p

pub at-change : (u : Update) (xs : List ℕ) (y : ℕ) (k : CacheState) → T (distinct xs) → at y (cache.change u xs k).held ≡ affected u y (member y xs) (at y k.held)
at-change u [] y k d = refl
at-change u (x ∷ xs) y k d = at-change u xs y (cache.change_at u x k) (and_next (not (member x xs)) (distinct xs) d) ∙ ap (affected u y (member y xs)) (at-one u x y k) ∙ go (y == x) (member y xs) refl refl
  where
    go : (a b : Bool) → (y == x) ≡ a → member y xs ≡ b → affected u y b (affected u y a (at y k.held)) ≡ affected u y (a || b) (at y k.held)
    go true true p q = absurd (no_both (member y xs) (subst T (sym q) tt) (subst (λ z. T (not (member z xs))) (sym (equal y x p)) (and_first (not (member x xs)) (distinct xs) d)))
    go true false p q = refl
    go false b p q = refl

pub at-used : (xs : List ℕ) (y : ℕ) (k : CacheState) → at y (cache.all_used xs k).held ≡ at y k.held
at-used [] y k = refl
at-used (x ∷ xs) y k = at-used xs y (cache.used x k) ∙ one
  where
    same-one : (h : Held) → at x k.held ≡ Some h → (b : Bool) → (y == x) ≡ b → cond b (Some h) (at y k.held) ≡ at y k.held
    same-one h p true q = sym (ap (λ z. at z k.held) (equal y x q) ∙ p)
    same-one h p false q = refl

    go : (o : Option Held) → at x k.held ≡ o → at y (elim o as (λ z. CacheState) [ None ↦ k | Some h ↦ record k { held = renewed x h k.held } ]).held ≡ at y k.held
    go None p = refl
    go (Some h) p = at-renewed y x h k.held ∙ same-one h p (y == x) refl

    one : at y (cache.used x k).held ≡ at y k.held
    one = go (at x k.held) refl

module _ (u : Update) (xs : List ℕ) (k : CacheState) (sound : T (is_sound u)) where
  abbrev pub behind : CacheState
  behind = cache.all_used xs (cache.change u (operands u) k)

  held-behind : (x : ℕ) → at x behind.held ≡ affected u x (has_operand x u) (at x k.held)
  held-behind x = at-used xs x (cache.change u (operands u) k) ∙ at-change u (operands u) x k (and_first (distinct (operands u)) _ sound)

  pub behind-changed : (x : ℕ) (o : Held) → at x behind.held ≡ Some o → (p : Held) × (at x k.held ≡ Some p) × (o.image ≡ image_next x p.image u)
  behind-changed x o e = go (has_operand x u) (at x k.held) refl (sym (held-behind x) ∙ e)
    where
      go : (b : Bool) (z : Option Held) → at x k.held ≡ z → affected u x b z ≡ Some o → (p : Held) × (z ≡ Some p) × (o.image ≡ cond b (effect u x p.image) p.image)
      go false z q e = (o, e, refl)
      go true None q e = absurd (none_some e)
      go true (Some p) q e = (p, refl, sym (ap (λ w. w.image) (same_some e)))

  pub behind-writes : (x : ℕ) → IsWrite (at x k.held) → IsWrite (at x behind.held)
  behind-writes x w = subst IsWrite (sym (held-behind x)) (go (has_operand x u) (at x k.held) w)
    where
      go : (b : Bool) (z : Option Held) → IsWrite z → IsWrite (affected u x b z)
      go false z w = w
      go true None w = w
      go true (Some p) w = w

-- what suits is held and fits, where it's held with a Write token
pub suits-held : (u : Update) (k : CacheState) → T (suits u k) → ((x : ℕ) → T (has_operand x u) → IsWrite (at x k.held)) → (x : ℕ) → T (has_operand x u) → (o : Held) × (at x k.held ≡ Some o) × T (is_write o.hold) × T (fits u x o.image)
suits-held u k s w x m = go (at x k.held) (w x m) (all (operands u) (and_next (is_sound u) _ s) m)
  where
    all : (os : List ℕ) → T (list_all (λ y. fits u y (cache.images_held k y)) os) → T (member x os) → T (fits u x (cache.held_image (at x k.held)))
    all [] h m = absurd m
    all (y ∷ os) h m = elim (Rattle.ec_coherence.proofs.ForServer.Lists.or_else (x == y) (member x os) m) [
      | inl e ↦ subst (λ z. T (fits u z (cache.images_held k z))) (sym (equal x y (is-true (x == y) e))) (and_first (fits u y (cache.images_held k y)) _ h)
      | inr r ↦ all os (and_next (fits u y (cache.images_held k y)) _ h) r
    ]

    go : (z : Option Held) → IsWrite z → T (fits u x (cache.held_image z)) → (o : Held) × (z ≡ Some o) × T (is_write o.hold) × T (fits u x o.image)
    go None w f = absurd w
    go (Some o) w f = (o, refl, w, f)

-- a Make takes the first id
pub ids-left : (u : Update) (ids : List ℕ) → ((x : ℕ) → made u ≡ Some x → first_id ids ≡ Some x) → ids ≡ listed (made u) ++ less_id u ids
ids-left (Make dir name obj k) [] f = absurd (none_some (f obj refl))
ids-left (Make dir name obj k) (x ∷ ids) f = ap (λ y. y ∷ ids) (same_some (f obj refl))
ids-left (Drop dir name obj k) ids f = refl
ids-left (Move dir from to obj k victim) ids f = refl
ids-left (Put obj at bytes inside) ids f = refl
ids-left (Len obj len) ids f = refl
ids-left (Mode obj mode) ids f = refl
ids-left (Stamp obj stamp) ids f = refl
ids-left (Order objs) ids f = refl
ids-left (Shift dir from into to obj k victim up) ids f = refl
ids-left (Owner obj owner) ids f = refl
