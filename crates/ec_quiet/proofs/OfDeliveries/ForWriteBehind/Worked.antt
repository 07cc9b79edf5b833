-- Works of lines: what they ask for is what the line asks for.
use Rattle.std.proofs.Common.{not, map, cond, ◌++◌, [], ◌⊎◌, true, ◌≡◌, refl, sym, ap, ◌∙◌, subst, arith, ℕ, T, Bool, false, List, ◌∷◌, ◌||◌, inl, inr, filter}
use Rattle.std.specs.Prelude.{Option, None, Some, ◌==◌}
use Rattle.std.proofs.lemmas.Bool.{eq-eqb, eqb-true}
use Rattle.ec_volume.specs.Update.{has_operand, member}
use Rattle.ec_volume.specs.declared.update.Update.{Update}
use Rattle.ec_volume.specs.Volume.{Images, after}
use Rattle.ec_order.specs.Order.{Holds, InClosure, Issued, ask, need}
use Rattle.ec_history.specs.History.{Base, Op, kept, of_issue, of_start, updates}
use Rattle.ec_history.specs.Placing.{begun, place, watch}
use Rattle.ec_plain.specs.Plain.{plain}
use Rattle.ec_history.specs.declared.shown.Shown.{Shown}
use Rattle.ec_history.specs.declared.shown.Shown.TheVariants as show
use Rattle.ec_plain.specs.declared.call.Call.{Call}
use Rattle.ec_plain.specs.declared.call.Call.TheVariants as call
use Rattle.ec_log.specs.Choice.{numbers_asked}
use Rattle.ec_log.specs.Log.{is_asked}
use Rattle.ec_log.specs.declared.state.Asked.{Asked}
use Rattle.ec_log.specs.declared.state.Asked.TheVariants.{Object, Op as OneOp}
use Rattle.ec_machine_laws.proofs.Holding.{held-by, holds-front, holds-passed}
use Rattle.ec_protocol.specs.declared.script.Line.{Line}
use Rattle.ec_protocol.specs.declared.script.Line.TheVariants as line
use Rattle.ec_quiet.specs.Works.{Calls, Work, saves}
use Rattle.ec_quiet.specs.OfDeliveries.Behind.{saved_by}
use Rattle.ec_quiet.specs.OfDeliveries.PhasesBehind.{AsksOf, saved}
use Rattle.ec_quiet.specs.OfDeliveries.Closures.{IsInClosureOf, operations}
use Rattle.ec_quiet.specs.OfDeliveries.WithinClosures.{IsWithin, kept_operations}
use Rattle.ec_quiet.proofs.OfDeliveries.ForWriteBehind.Parts.{closure-grows, kept-issued}
use Rattle.ec_cache.proofs.OfResolve.Making.{either-plain}
use Rattle.ec_cache.proofs.OfResolve.Members.{member-left}
use Rattle.ec_quiet.specs.OfDeliveries.Scripts.{IsWriteBehind, LineAsks, volume_behind}
use Rattle.ec_quiet.specs.OfDeliveries.ScriptWorks.{IsWorkOf, IsWorkOn, LeaveOut}
use Rattle.ec_base.proofs.Bools.{on as holds}

-- a closure has an operation that is asked for
asked-some : (is : Issued) (asked : ℕ → Bool) (n : ℕ) → InClosure is asked n → (m : ℕ) × T (asked m)
asked-some is asked n (ask m u h t) = (m, t)
asked-some is asked n (need m k a b h i l t c) = asked-some is asked k c

module _ (base : Base) (ss : List Shown) where
  -- operations of a start that leave the object out
  left-out : (c b x n : ℕ) (u : Update) (ks : List Op) → LeaveOut x ks → Holds (of_issue c b ks) n u → T (has_operand x u) → ⊥
  left-out c b x n u [] e h t = h
  left-out c b x n u (k ∷ ks) e h t = go (of_start c b k) h (left-out c b x n u ks e.1)
    where
      refuted : (z : Bool) → T (not z) → T z → ⊥
      refuted true a b = a
      refuted false a b = b

      go : (z : Bool) → Holds (map (λ (o : Op). (o.number, o.update)) (cond z (k ∷ filter (of_start c b) ks) (filter (of_start c b) ks))) n u → (Holds (of_issue c b ks) n u → T (has_operand x u) → ⊥) → ⊥
      go true (inl i) more = refuted (has_operand x k.update) e.0 (subst (λ y. T (has_operand x y)) (sym i.1) t)
      go true (inr i) more = more i t
      go false i more = more i t

  -- nothing is in the closure of an object without operations
  none-closed : (c x n : ℕ) → LeaveOut x (kept base (place ss)) → IsInClosureOf (Object x) (kept_operations base c ss) n → ⊥
  none-closed c x n unused i =
      let s = asked-some (kept_operations base c ss) (λ m. member m (numbers_asked (Object x) (kept_operations base c ss))) n i in
      let f = held-by (filter (is_asked (Object x)) (kept_operations base c ss)) s.0 s.1 in
      left-out c (begun (watch c ss)).starts x s.0 f.0 (kept base (place ss)) unused (holds-front (is_asked (Object x)) (kept_operations base c ss) s.0 f.0 f.1) (holds (holds-passed (is_asked (Object x)) (kept_operations base c ss) s.0 f.0 f.1))

  abbrev v : Images
  v = volume_behind base ss

  abbrev Lies : Line → ℕ → ℕ → Type 0
  Lies l c n = (a : Asked) × LineAsks v l c a × IsInClosureOf a (operations base c ss) n

  -- of all that was issued
  all-closed : (c : ℕ) (a : Asked) (n : ℕ) → IsInClosureOf a (kept_operations base c ss) n → IsInClosureOf a (operations base c ss) n
  all-closed c a n i = closure-grows a (kept_operations base c ss) (operations base c ss) (kept-issued c (begun (watch c ss)).starts base (place ss)) n i

  of-call : (j : Work) (d : ℕ) (cl : Call) → IsWorkOf base ss (line.Call d cl) j → (c : ℕ) (a : Asked) → AsksOf v j c a → (n : ℕ) → IsInClosureOf a (kept_operations base c ss) n → Lies (line.Call d cl) c n
  of-call j d cl (clerk, task, touches) c a (inl (own, asks)) n i = (a, inl (own ∙ clerk, sym (ap (saved v) task) ∙ asks), all-closed c a n i)
  of-call j d cl (clerk, task, touches) c a (inr (other, x, is, touched)) n i = elim (touches x touched) [
    | inl all ↦ (a, inr (ap (λ z. c == z) (sym clerk) ∙ other, x, is, all), all-closed c a n i)
    | inr unused ↦ absurd (none-closed c x n unused (subst (λ z. IsInClosureOf z (kept_operations base c ss) n) is i))
  ]

  of-push : (j : Work) (d k : ℕ) → IsWorkOf base ss (line.Push d k) j → (c : ℕ) (a : Asked) → AsksOf v j c a → (n : ℕ) → IsInClosureOf a (kept_operations base c ss) n → Lies (line.Push d k) c n
  of-push j d k (clerk, task, none) c a (inl (own, asks)) n i = (a, (own ∙ clerk, sym (some-same (OneOp k) a (sym (ap (saved v) task) ∙ asks))), all-closed c a n i)
    where
      some-same : (x y : Asked) → ◌≡◌ {A = Option Asked} (Some x) (Some y) → x ≡ y
      some-same x y e = cc
  of-push j d k (clerk, task, none) c a (inr (other, x, is, touched)) n i = absurd (subst (λ xs. T (member x xs)) none touched)

  module _ (j : Work) where
    lies : (l : Line) → IsWorkOf base ss l j → (c : ℕ) (a : Asked) → AsksOf v j c a → (n : ℕ) → IsInClosureOf a (kept_operations base c ss) n → Lies l c n
    lies (line.Call d cl) w = of-call j d cl w
    lies (line.Push d k) w = of-push j d k w
    lies line.Comment w = absurd w
    lies (line.Cut d) w = absurd w
    lies (line.Uncut d) w = absurd w
    lies (line.Drop d k i) w = absurd w
    lies (line.Repeat d k i) w = absurd w
    lies (line.Deliver d k i) w = absurd w
    lies (line.Resend d) w = absurd w
    lies (line.Crash d) w = absurd w
    lies (line.End d) w = absurd w
    lies line.Stop w = absurd w
    lies (line.Arm i ch) w = absurd w
    lies line.Restart w = absurd w

    asks-here : (u : Images) (c : ℕ) (a : Asked) → saved v j.task ≡ saved u j.task → AsksOf u j c a → AsksOf v j c a
    asks-here u c a same (inl (own, e)) = inl (own, same ∙ e)
    asks-here u c a same (inr o) = inr o

    pub works-behind : (u : Images) (l : Line) (s : Shown) → saved v j.task ≡ saved u j.task → IsWorkOf base ss l j → IsWithin base u j ss s → IsWriteBehind base l ss s
    works-behind u l (show.Durable c ns) same w (a, asks, inside) = λ n m. lies l w c a (asks-here u c a same asks) n (inside n m)
    works-behind u l (show.Waits i c cl) same w f = tt
    works-behind u l (show.Answered i c cl a op) same w f = tt
    works-behind u l (show.Ended c ns) same w f = tt
    works-behind u l (show.Unseen c) same w f = tt
    works-behind u l (show.Told c ns) same w f = tt
    works-behind u l (show.Crashed c) same w f = tt
    works-behind u l show.Stopped same w f = tt
    works-behind u l show.Started same w f = tt
    works-behind u l show.Nothing same w f = tt
    works-behind u l show.Unsettled same w f = tt
    works-behind u l (show.Bad i k) same w f = tt
    works-behind u l (show.DiskBad k) same w f = tt
    works-behind u l (show.Limit n k) same w f = tt
    works-behind u l (show.Spent n) same w f = tt

-- What a call touches.

module _ (origin : Images) (ks : List Op) where
  abbrev u : Images
  u = after origin (updates ks)

  member-both : (x : ℕ) (xs : List ℕ) (y : ℕ) → T (member x (xs ++ y ∷ [])) → T (member x xs) ⊎ (x ≡ y)
  member-both x [] y t = go (x == y) refl t
    where
      go : (z : Bool) → (x == y) ≡ z → T (z || false) → T (member x []) ⊎ (x ≡ y)
      go true e t = inr (eqb-true x y e)
      go false e t = absurd t
  member-both x (o ∷ xs) y t = go (x == o) t (member-both x xs y)
    where
      go : (z : Bool) → T (z || member x (xs ++ y ∷ [])) → (T (member x (xs ++ y ∷ [])) → T (member x xs) ⊎ (x ≡ y)) → T (z || member x xs) ⊎ (x ≡ y)
      go true t more = inl tt
      go false t more = more t

  touched-always : (cl : Call) (x : ℕ) → T (member x (plain u cl 0).touched) → ((id : ℕ) → T (member x (plain u cl id).touched)) ⊎ (x ≡ 0)
  touched-always cl x t = elim (either-plain u cl) [
    | inl steady ↦ inl (λ id. subst (λ o. T (member x o.touched)) (steady.0 0 id) t)
    | inr m ↦ elim (member-both x m.read 0 (subst (λ o. T (member x o.touched)) (m.comes 0) t)) [
      | inl i ↦ inl (λ id. subst (λ o. T (member x o.touched)) (sym (m.comes id)) (member-left x m.read (id ∷ []) i))
      | inr z ↦ inr z
    ]
  ]

  pub touches-work : (d id : ℕ) (cl : Call) (j : Work) → j.clerk ≡ d → j.task ≡ Calls cl → j.touched ≡ (plain u cl 0).touched ++ id ∷ [] → LeaveOut 0 ks → LeaveOut id ks → IsWorkOn origin ks (line.Call d cl) j
  touches-work d id cl j clerk task touched none unused = (clerk, task, λ x t. by x (member-both x (plain u cl 0).touched id (subst (λ xs. T (member x xs)) touched t)))
    where
      by : (x : ℕ) → T (member x (plain u cl 0).touched) ⊎ (x ≡ id) → ((z : ℕ) → T (member x (plain u cl z).touched)) ⊎ LeaveOut x ks
      by x (inl t) = elim (touched-always cl x t) [ inl all ↦ inl all | inr z ↦ inr (subst (λ y. LeaveOut y ks) (sym z) none) ]
      by x (inr e) = inr (subst (λ y. LeaveOut y ks) (sym e) unused)

-- A call that isn't to make anything durable.

module _ (v : Images) (a : Asked) where
  none-saved : ◌≡◌ {A = Option Asked} None (Some a) → ⊥
  none-saved e = cc

  unsaved : (cl : Call) → saves cl ≡ false → saved_by v cl ≡ Some a → ⊥
  unsaved (call.Fsync p) off e = grind (arith, off)
  unsaved call.Sync off e = grind (arith, off)
  unsaved (call.Mkdir p) off e = none-saved e
  unsaved (call.Create p) off e = none-saved e
  unsaved (call.Write p n bs) off e = none-saved e
  unsaved (call.SetLen p n) off e = none-saved e
  unsaved (call.Read p n c) off e = none-saved e
  unsaved (call.Chmod p n) off e = none-saved e
  unsaved (call.Touch p n) off e = none-saved e
  unsaved (call.Stat p) off e = none-saved e
  unsaved (call.List p) off e = none-saved e
  unsaved (call.Remove p) off e = none-saved e
  unsaved (call.Rmdir p) off e = none-saved e
  unsaved (call.Rename p q) off e = none-saved e
  unsaved (call.Forder ps) off e = none-saved e
  unsaved (call.Chown p n) off e = none-saved e

pub own-wait : (base : Base) (d : ℕ) (cl : Call) (ss : List Shown) (n : ℕ) (ns : List ℕ) → saves cl ≡ false → IsWriteBehind base (line.Call d cl) ss (show.Durable d (n ∷ ns)) → ⊥
own-wait base d cl ss n ns off i = go (i n here)
  where
    here : T (member n (n ∷ ns))
    here = subst (λ b. T (b || member n ns)) (sym (eq-eqb n n refl)) tt

    differs : (d == d) ≡ false → ⊥
    differs e = grind (arith, sym (eq-eqb d d refl) ∙ e)

    go : (a : Asked) × LineAsks (volume_behind base ss) (line.Call d cl) d a × IsInClosureOf a (operations base d ss) n → ⊥
    go (a, inl (own, e), c) = unsaved (volume_behind base ss) a cl off e
    go (a, inr (other, x, is, touched), c) = differs other
