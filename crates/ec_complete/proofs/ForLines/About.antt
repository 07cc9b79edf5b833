-- What a call touches depends on the id of its new object only by that id.
use Rattle.std.proofs.Common.{◌≡◌, refl, sym, ap, subst, ◌∙◌, inl, inr, arith, ◌⊎◌, ◌≤◌, ◌+◌, ℕ, Bool, true, false, ◌==◌, ◌||◌, T, length, length-append, [], ◌∷◌}
use Rattle.ec_volume.specs.Update.{member}
use Rattle.ec_volume.specs.Volume.{Images}
use Rattle.ec_plain.specs.BoundedCalls.{is_bounded}
use Rattle.ec_plain.specs.Plain.{plain}
use Rattle.ec_plain.specs.declared.call.Call.{Call}
use Rattle.ec_machine_laws.proofs.Few.{calls-few}
use Rattle.ec_cache.proofs.OfResolve.Making.{IsMaking, either-plain}
use Rattle.ec_coherence.proofs.ForBatches.Ids.{in-back, in-either, in-front}
use Rattle.ec_quiet.specs.Works.{Calls, Task, Work}
use Rattle.ec_complete.specs.WaitingCalls.{IsAbout, max_about, touched_by}
use Rattle.ec_base.proofs.Numbers.{equal}

only-one : (x y : ℕ) → T (member x (y ∷ [])) → x ≡ y
only-one x y t = go (x == y) refl t
  where
    go : (b : Bool) → (x == y) ≡ b → T (b || false) → x ≡ y
    go true e t = equal x y e
    go false e t = absurd t

same-call : (a b : Call) → ◌≡◌ {A = Task} (Calls a) (Calls b) → a ≡ b
same-call a b e = cc

module _ (j : Work) (cl : Call) (v : Images) (id : ℕ) (task : j.task ≡ Calls cl) (about : j.touched ≡ touched_by cl v id) where
  -- with no id at all
  plainly : (x : ℕ) → T (member x (plain v cl 0).touched) → T (member x j.touched)
  plainly x t = subst (λ z. T (member x z)) (sym about) (in-front x (plain v cl 0).touched (id ∷ []) t)

  with-id : (i : ℕ) → (i ≡ 0) ⊎ T (member i j.touched) → (x : ℕ) → T (member x (plain v cl i).touched) → T (member x j.touched)
  with-id i known x t = elim (either-plain v cl) [
    | inl steady ↦ plainly x (subst (λ z. T (member x z.touched)) (steady.0 i 0) t)
    | inr making ↦ elim (in-either x making.read (i ∷ []) (subst (λ z. T (member x z.touched)) (making.comes i) t)) [
      | inl r ↦ plainly x (subst (λ z. T (member x z.touched)) (sym (making.comes 0)) (in-front x making.read (0 ∷ []) r))
      | inr o ↦ new making (only-one x i o)
    ]
  ]
    where
      first : (y : ℕ) → T (member y (y ∷ []))
      first y = subst (λ b. T (b || false)) (sym (Rattle.ec_base.proofs.Numbers.same-self y)) tt

      new : IsMaking (plain v cl) → x ≡ i → T (member x j.touched)
      new making e = elim known [
        | inl none ↦ plainly x (subst (λ z. T (member z (plain v cl 0).touched)) (sym (e ∙ none)) (subst (λ z. T (member 0 z.touched)) (sym (making.comes 0)) (in-back 0 making.read (0 ∷ []) (first 0))))
        | inr m ↦ subst (λ z. T (member z j.touched)) (sym e) m
      ]

  is-about : IsAbout j v
  is-about other e i known x t = with-id i known x (subst (λ z. T (member x (plain v z i).touched)) (same-call other cl (sym e ∙ task)) t)

  few : T (is_bounded cl) → length j.touched ≤ max_about
  few b = within (length j.touched) (length (plain v cl 0).touched) (ap length about ∙ length-append (plain v cl 0).touched (id ∷ [])) (calls-few v cl 0 b)
    where
      within : (all some : ℕ) → all ≡ some + 1 → some ≤ 136 → all ≤ 137
      within all some e l = omega (arith, e, l)

pub lines-about : (j : Work) (cl : Call) (v : Images) (id : ℕ) → j.task ≡ Calls cl → j.touched ≡ touched_by cl v id → T (is_bounded cl) → IsAbout j v × (length j.touched ≤ max_about)
lines-about j cl v id task about b = (is-about j cl v id task about, few j cl v id task about b)
