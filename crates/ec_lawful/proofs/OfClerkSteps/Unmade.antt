-- An object that is gone on the server is an operand of no operation that isn't durable, but where one of them makes it.
use Rattle.std.proofs.Common.{◌≡◌, refl, sym, ap, subst, ◌∙◌, inl, inr, ◌⊎◌, ℕ, Bool, true, false, not, ◌==◌, ◌&&◌, ◌||◌, cond, T, List, [], ◌∷◌, ◌++◌, Option, Some, None}
use Rattle.std.specs.List.{filter, list_all}
use Rattle.ec_volume.specs.Image.{is_bare, is_gone, is_id, is_kind, overwritten, with_bytes, yields}
use Rattle.ec_volume.specs.Update.{Above, effect, fits, has_operand, has_room, ids_of, leads, listed, member, operands}
use Rattle.ec_volume.specs.Volume.{fits_in_turn, image_after, image_next}
use Rattle.ec_volume.specs.declared.image.Image.{Image}
use Rattle.ec_volume.specs.declared.image.Image.TheVariants.{Gone, File, Dir}
use Rattle.ec_volume.specs.declared.image.Kind.{Kind}
use Rattle.ec_volume.specs.declared.image.Kind.TheVariants as kind
use Rattle.ec_volume.specs.declared.update.Update.{Update}
use Rattle.ec_volume.specs.declared.update.Update.TheVariants.{Make, Drop, Move, Put, Len, Mode, Stamp, Order, Shift, Owner}
use Rattle.ec_order.specs.Order.{is_overwrite, needs, share, under}
use Rattle.ec_history.specs.History.{Each, Op, updates}
use Rattle.ec_history.specs.OfLaws.Needs.{holds_needed}
use Rattle.ec_history.proofs.OfLaws.ForPlacing.Objects.{common}
use Rattle.ec_durable.specs.Durable.{made}
use Rattle.ec_coherence.proofs.ForServer.Lists.{filter-no, filter-yes, or_else}
use Rattle.ec_base.proofs.Bools.{left as and_first, not-both as no_both, or-right as or_next, right as and_next, or_first, is-true}

-- What fits an object that is gone makes it.

leads-nowhere : (up : Above) (into x : ℕ) → T (member x (ids_of up)) → T (leads up into x Gone) → ⊥
leads-nowhere [] into x m l = m
leads-nowhere (e ∷ up) into x m l = go (x == e.0) m (and_first (not (x == e.0) || false) _ l) (λ n. leads-nowhere up into x n (and_next (not (x == e.0) || false) _ l))
  where
    go : (a : Bool) → T (a || member x (ids_of up)) → T (not a || false) → (T (member x (ids_of up)) → ⊥) → ⊥
    go true m l r = l
    go false m l r = r m

in-part : (q : ℕ → Bool) (x : ℕ) (xs : List ℕ) → T (member x (filter q xs)) → T (member x xs)
in-part q x [] m = m
in-part q x (y ∷ ys) m = go (q y) m (λ n. in-part q x ys n)
  where
    go : (a : Bool) → T (member x (cond a (y ∷ filter q ys) (filter q ys))) → (T (member x (filter q ys)) → T (member x ys)) → T ((x == y) || member x ys)
    go false m r = or_next (x == y) (member x ys) (r m)
    go true m r = elim (or_else (x == y) (member x (filter q ys)) m) [ inl a ↦ or_first (x == y) (member x ys) a | inr a ↦ or_next (x == y) (member x ys) (r a) ]

no-kind : (k : Kind) → T (is_kind k Gone) → ⊥
no-kind kind.File t = t
no-kind kind.Dir t = t

not-bare : (k : Kind) → T (is_bare k Gone) → ⊥
not-bare kind.File t = t
not-bare kind.Dir t = t

no-yield : (n : List ℕ) (victim : Option ℕ) (b : Bool) → T (yields n victim Gone && b) → ⊥
no-yield n None b t = t
no-yield n (Some v) b t = t

-- one that goes, or one of the directories above
in-way : (victim : Option ℕ) (k : Kind) (up : Above) (into x : ℕ) (q : ℕ → Bool) → T (leads up into x Gone) → T (member x (listed victim ++ filter q (ids_of up))) → T (not (is_id x victim) || is_bare k Gone) → ⊥
in-way None k up into x q l m f = leads-nowhere up into x (in-part q x (ids_of up) m) l
in-way (Some v) k up into x q l m f = go (x == v) m f
  where
    go : (a : Bool) → T (a || member x (filter q (ids_of up))) → T (not a || is_bare k Gone) → ⊥
    go true m f = not-bare k f
    go false m f = leads-nowhere up into x (in-part q x (ids_of up) m) l

pub fits-gone : (u : Update) (x : ℕ) → T (has_operand x u) → T (fits u x Gone) → T (member x (listed (made u)))
fits-gone (Make dir name obj k) x h f = go (x == dir) (x == obj) h f
  where
    go : (a b : Bool) → T (a || (b || false)) → T (cond a false true) → T (b || false)
    go true b h f = absurd f
    go false b h f = h
fits-gone (Drop dir name obj k) x h f = absurd (go (x == dir) f)
  where
    go : (a : Bool) → T (cond a false (is_bare k Gone)) → ⊥
    go true f = f
    go false f = not-bare k f
fits-gone (Move dir from to obj k victim) x h f = absurd (go (x == dir) (x == obj) f)
  where
    go : (a b : Bool) → T (cond a false (cond b (is_kind k Gone) (is_bare k Gone))) → ⊥
    go true b f = f
    go false true f = no-kind k f
    go false false f = not-bare k f
fits-gone (Put obj at bytes inside) x h f = absurd f
fits-gone (Len obj len) x h f = absurd f
fits-gone (Mode obj mode) x h f = absurd f
fits-gone (Stamp obj stamp) x h f = absurd f
fits-gone (Order objs) x h f = absurd f
fits-gone (Shift dir from into to obj k victim up) x h f = absurd (go (x == dir) (x == into) (x == obj) h (and_next (leads up into x Gone) _ f))
  where
    leading : T (leads up into x Gone)
    leading = and_first (leads up into x Gone) _ f

    go : (a b c : Bool) → T (a || (b || (c || member x (listed victim ++ filter (λ o. not (o == dir)) (ids_of up)))))
        → T (cond a false (cond b (yields to victim Gone && has_room victim Gone) (cond c (is_kind k Gone) (not (is_id x victim) || is_bare k Gone)))) → ⊥
    go true b c h f = f
    go false true c h f = no-yield to victim (has_room victim Gone) f
    go false false true h f = no-kind k f
    go false false false h f = in-way victim k up into x (λ o. not (o == dir)) leading h f
fits-gone (Owner obj owner) x h f = absurd f

-- An overwrite leaves an object that is there.

bytes-live : (f : List ℕ → List ℕ) (i : Image) → T (not (is_gone i)) → T (not (is_gone (with_bytes f i)))
bytes-live f Gone t = t
bytes-live f (File m s w bs) t = tt
bytes-live f (Dir m s w es) t = tt

overwrite-live : (u : Update) (x : ℕ) (i : Image) → T (is_overwrite u) → T (not (is_gone i)) → T (not (is_gone (effect u x i)))
overwrite-live (Make dir name obj k) x i o t = absurd o
overwrite-live (Drop dir name obj k) x i o t = absurd o
overwrite-live (Move dir from to obj k victim) x i o t = absurd o
overwrite-live (Put obj at bytes inside) x i o t = bytes-live (overwritten at bytes) i t
overwrite-live (Len obj len) x i o t = absurd o
overwrite-live (Mode obj mode) x i o t = absurd o
overwrite-live (Stamp obj stamp) x i o t = absurd o
overwrite-live (Order objs) x i o t = absurd o
overwrite-live (Shift dir from into to obj k victim up) x i o t = absurd o
overwrite-live (Owner obj owner) x i o t = absurd o

module _ (dur : Op → Bool) (x : ℕ) where
  abbrev Free : Op → Op → Bool
  Free a y = not (dur y && needs a.update y.update)

  -- what needs nothing of an operation on the object overwrites it, or leaves it alone
  one-live : (a y : Op) (i : Image) → T (has_operand x a.update) → T (dur y) → T (Free a y) → T (not (is_gone i)) → T (not (is_gone (image_next x i y.update)))
  one-live a y i h d f t = go (has_operand x y.update) refl
    where
      shares : has_operand x y.update ≡ true → T (is_overwrite a.update) × T (is_overwrite y.update)
      shares e = both (dur y) (share a.update y.update) (is_overwrite a.update) (is_overwrite y.update) (under a.update y.update) d
          (subst T (sym (common x (operands a.update) (operands y.update) (is-true (has_operand x a.update) h) e)) tt) f
        where
          both : (d s a b u : Bool) → T d → T s → T (not (d && ((s && not (a && b)) || u))) → T a × T b
          both true true true true u p q n = (tt, tt)
          both true true true false u p q n = absurd n
          both true true false b u p q n = absurd n
          both true false a b u p q n = absurd q
          both false s a b u p q n = absurd p

      go : (b : Bool) → has_operand x y.update ≡ b → T (not (is_gone (cond b (effect y.update x i) i)))
      go true e = overwrite-live y.update x i (shares e).1 t
      go false e = t

  stays-live : (a : Op) (os : List Op) (i : Image) → T (has_operand x a.update) → T (list_all (Free a) os) → T (not (is_gone i)) → T (not (is_gone (image_after x i (updates (filter dur os)))))
  stays-live a [] i h f t = t
  stays-live a (y ∷ os) i h f t = go (dur y) refl (λ j u. stays-live a os j h (and_next (Free a y) (list_all (Free a) os) f) u)
    where
      go : (b : Bool) → dur y ≡ b → ((j : Image) → T (not (is_gone j)) → T (not (is_gone (image_after x j (updates (filter dur os))))))
          → T (not (is_gone (image_after x i (updates (filter dur (y ∷ os))))))
      go true e r = subst (λ z. T (not (is_gone (image_after x i (updates z))))) (sym (filter-yes dur y os e)) (r (image_next x i y.update) (one-live a y i h (subst T (sym e) tt) (and_first (Free a y) (list_all (Free a) os) f) t))
      go false e r = subst (λ z. T (not (is_gone (image_after x i (updates z))))) (sym (filter-no dur y os e)) (r i t)

  -- one of these operations makes the object, and isn't durable
  pub record IsMadeIn (P : Op → Type 0) (os : List Op) : Type 0 where
    pub op : Op
    pub front : List Op
    pub back : List Op
    pub whole : os ≡ front ++ op ∷ back
    pub fact : P op
    pub pending : T (not (dur op))
    pub makes : T (member x (listed (made op.update)))

  abbrev pub Leaves : Op → Type 0
  Leaves o = T (not (dur o)) → T (not (has_operand x o.update))

  pub unmade : (P : Op → Type 0) (os : List Op) (i : Image) → Each P os → T (holds_needed (λ o. o.update) dur os) → T (fits_in_turn x i (updates os)) → image_after x i (updates (filter dur os)) ≡ Gone
      → Each Leaves os ⊎ IsMadeIn P os
  unmade P [] i p c f g = inl tt
  unmade P (o ∷ os) i p c f g = go (dur o) refl (has_operand x o.update) refl (λ j a b. unmade P os j p.1 (and_next (dur o || list_all (Free o) os) _ c) a b)
    where
      more : Leaves o → Each Leaves os ⊎ IsMadeIn P os → Each Leaves (o ∷ os) ⊎ IsMadeIn P (o ∷ os)
      more l (inl e) = inl (l, e)
      more l (inr m) = inr (record { op = m.op; front = o ∷ m.front; back = m.back; whole = ap (λ z. o ∷ z) m.whole; fact = m.fact; pending = m.pending; makes = m.makes })

      here : (j : Image) → T (fits o.update x j) → dur o ≡ false → T (has_operand x o.update) → (T (not (is_gone j)) → ⊥) → Each Leaves (o ∷ os) ⊎ IsMadeIn P (o ∷ os)
      here Gone t e h n = inr (record { op = o; front = []; back = os; whole = refl; fact = p.0; pending = subst (λ b. T (not b)) (sym e) tt; makes = fits-gone o.update x h t })
      here (File m s w bs) t e h n = absurd (n tt)
      here (Dir m s w es) t e h n = absurd (n tt)

      dead : dur o ≡ false → T (has_operand x o.update) → T (not (is_gone i)) → ⊥
      dead e h t = subst (λ z. T (not (is_gone z))) g (subst (λ z. T (not (is_gone (image_after x i (updates z))))) (sym (filter-no dur o os e))
          (stays-live o os i h (subst (λ b. T (b || list_all (Free o) os)) e (and_first (dur o || list_all (Free o) os) _ c)) t))

      go : (a : Bool) → dur o ≡ a → (b : Bool) → has_operand x o.update ≡ b
          → ((j : Image) → T (fits_in_turn x j (updates os)) → image_after x j (updates (filter dur os)) ≡ Gone → Each Leaves os ⊎ IsMadeIn P os)
          → Each Leaves (o ∷ os) ⊎ IsMadeIn P (o ∷ os)
      go true e b q r = more (λ n. absurd (no_both (dur o) (subst T (sym e) tt) n))
          (r (image_next x i o.update) (and_next (not (has_operand x o.update) || fits o.update x i) _ f) (sym (ap (λ z. image_after x i (updates z)) (filter-yes dur o os e)) ∙ g))
      go false e false q r = more (λ n. subst (λ b. T (not b)) (sym q) tt)
          (r i (subst (λ j. T (fits_in_turn x j (updates os))) (ap (λ b. cond b (effect o.update x i) i) q) (and_next (not (has_operand x o.update) || fits o.update x i) _ f)) (sym (ap (λ z. image_after x i (updates z)) (filter-no dur o os e)) ∙ g))
      go false e true q r = here i (subst (λ b. T (not b || fits o.update x i)) q (and_first (not (has_operand x o.update) || fits o.update x i) _ f)) e (subst T (sym q) tt) (dead e (subst T (sym q) tt))
