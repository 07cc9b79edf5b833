-- What a line asks for, and closures of it, with renamed ids.
use Rattle.std.proofs.Common.{◌≡◌, refl, sym, ap, ◌∙◌, subst, ℕ, T, Bool, true, false, ◌||◌, List, [], ◌∷◌, inl, inr, map}
use Rattle.std.specs.Prelude.{Option, None, Some, ◌==◌}
use Rattle.std.specs.List.{filter}
use Rattle.ec_base.specs.Tables.{keys}
use Rattle.ec_volume.specs.Update.{member}
use Rattle.ec_volume.specs.Volume.{Images, after}
use Rattle.ec_volume.specs.declared.update.Update.{Update}
use Rattle.ec_order.specs.Order.{Holds, InClosure, Issued, ask, need}
use Rattle.ec_history.specs.History.{Base, Op, issued, kept, of_issue, of_start, updates}
use Rattle.ec_history.specs.Placing.{begun, place, watch}
use Rattle.ec_history.specs.declared.shown.Shown.{Shown}
use Rattle.ec_plain.specs.Plain.{plain}
use Rattle.ec_plain.specs.Walk.{At, Not, Reached, walk}
use Rattle.ec_plain.specs.declared.call.Call.{Call}
use Rattle.ec_plain.specs.declared.call.Call.TheVariants as call
use Rattle.ec_log.specs.Choice.{numbers_asked}
use Rattle.ec_log.specs.Log.{is_asked}
use Rattle.ec_log.specs.declared.state.Asked.{Asked}
use Rattle.ec_log.specs.declared.state.Asked.TheVariants.{Object, Op as OneOp, All}
use Rattle.ec_history.specs.OfLaws.Renaming.{IsRenaming}
use Rattle.ec_history.specs.OfLaws.Renamed.{AreRenamed, IsRenamed, op_by, update_by}
use Rattle.ec_history.proofs.OfLaws.ForRenamed.Calls.{plain-by}
use Rattle.ec_history.proofs.OfLaws.ForRenamed.Images.{operand-by}
use Rattle.ec_history.proofs.OfLaws.ForRenamed.RenamedKept.{issues-at, kept-at, updates-by}
use Rattle.ec_history.proofs.OfLaws.ForRenamed.Mapped.{filter-map}
use Rattle.ec_history.proofs.OfLaws.ForRenamed.Needs.{needs-at}
use Rattle.ec_history.proofs.OfLaws.ForRenamed.Shapes.{after-by}
use Rattle.ec_history.proofs.OfLaws.ForRenamed.Walks.{path-by, reached_by}
use Rattle.ec_protocol.specs.declared.script.Line.{Line}
use Rattle.ec_protocol.specs.declared.script.Line.TheVariants as line
use Rattle.ec_quiet.specs.OfDeliveries.Behind.{saved_by}
use Rattle.ec_quiet.specs.OfDeliveries.Closures.{IsInClosureOf, operations}
use Rattle.ec_quiet.specs.OfDeliveries.Scripts.{LineAsks, volume_behind}

abbrev pub asked_by : (ℕ → ℕ) → Asked → Asked
asked_by r (Object x) = Object (r x)
asked_by r (OneOp n) = OneOp n
asked_by r All = All

module _ (r : ℕ → ℕ) (ren : IsRenaming r) where
  -- Closures.

  abbrev hold_by : ℕ × Update → ℕ × Update
  hold_by x = (x.0, update_by r x.1)

  holds-by : (hs : Issued) (n : ℕ) (u : Update) → Holds hs n u → Holds (map hold_by hs) n (update_by r u)
  holds-by [] n u h = absurd h
  holds-by (x ∷ hs) n u (inl e) = inl (e.0, ap (update_by r) e.1)
  holds-by (x ∷ hs) n u (inr h) = inr (holds-by hs n u h)

  closure-by : (asked : ℕ → Bool) (hs : Issued) (n : ℕ) → InClosure hs asked n → InClosure (map hold_by hs) asked n
  closure-by asked hs n (ask k u h t) = ask k (update_by r u) (holds-by hs k u h) t
  closure-by asked hs n (need m k a b h i l t c) =
      need m k (update_by r a) (update_by r b) (holds-by hs m a h) (holds-by hs k b i) l (subst T (sym (needs-at r ren a b)) t) (closure-by asked hs k c)

  one-asked : (a : Asked) (x : ℕ × Update) → is_asked (asked_by r a) (hold_by x) ≡ is_asked a x
  one-asked (Object o) x = operand-by r ren o x.1
  one-asked (OneOp n) x = refl
  one-asked All x = refl

  keys-by : (hs : Issued) → keys (map hold_by hs) ≡ keys hs
  keys-by [] = refl
  keys-by (x ∷ hs) = ap (λ ns. x.0 ∷ ns) (keys-by hs)

  asked-same : (a : Asked) (hs : Issued) → numbers_asked (asked_by r a) (map hold_by hs) ≡ numbers_asked a hs
  asked-same a hs = ap keys (filter-map hold_by (is_asked (asked_by r a)) (is_asked a) (one-asked a) hs) ∙ keys-by (filter (is_asked a) hs)

  pub closed-by : (a : Asked) (hs : Issued) (n : ℕ) → IsInClosureOf a hs n → IsInClosureOf (asked_by r a) (map hold_by hs) n
  closed-by a hs n c = subst (λ ns. InClosure (map hold_by hs) (λ m. member m ns) n) (sym (asked-same a hs)) (closure-by (λ m. member m (numbers_asked a hs)) hs n c)

  hold-pairs : (ks : List Op) → map (λ k. (k.number, k.update)) (map (op_by r) ks) ≡ map hold_by (map (λ k. (k.number, k.update)) ks)
  hold-pairs [] = refl
  hold-pairs (k ∷ ks) = ap (λ hs. (k.number, update_by r k.update) ∷ hs) (hold-pairs ks)

  of_issue-at : (c b : ℕ) (ks : List Op) → of_issue c b (map (op_by r) ks) ≡ map hold_by (of_issue c b ks)
  of_issue-at c b ks = ap (map (λ k. (k.number, k.update))) (filter-map (op_by r) (of_start c b) (of_start c b) (λ k. refl) ks) ∙ hold-pairs (filter (of_start c b) ks)

  -- What is asked for.

  module _ (v w : Images) (same : IsRenamed r v w) where
    asked_option : Option Asked → Option Asked
    asked_option None = None
    asked_option (Some a) = Some (asked_by r a)

    reached-saved : (t : Reached) → elim (reached_by r ren t) as (λ z. Option Asked) [ At x ↦ Some (Object x) | Not f ↦ None ] ≡ asked_option (elim t as (λ z. Option Asked) [ At x ↦ Some (Object x) | Not f ↦ None ])
    unfolding asked_option
    reached-saved (At x) = refl
    reached-saved (Not f) = refl

    saved-at : (cl : Call) → saved_by w cl ≡ asked_option (saved_by v cl)
    unfolding asked_option
    saved-at (call.Fsync p) = ap (λ z. elim (z.to) as (λ z. Option Asked) [ At x ↦ Some (Object x) | Not f ↦ None ]) (path-by r ren v w same p) ∙ reached-saved (walk v p).to
    saved-at call.Sync = refl
    saved-at (call.Mkdir p) = refl
    saved-at (call.Create p) = refl
    saved-at (call.Write p n bs) = refl
    saved-at (call.SetLen p n) = refl
    saved-at (call.Read p n c) = refl
    saved-at (call.Chmod p n) = refl
    saved-at (call.Touch p n) = refl
    saved-at (call.Stat p) = refl
    saved-at (call.List p) = refl
    saved-at (call.Remove p) = refl
    saved-at (call.Rmdir p) = refl
    saved-at (call.Rename p q) = refl
    saved-at (call.Forder ps) = refl
    saved-at (call.Chown p n) = refl

    saved-some : (cl : Call) (a : Asked) → saved_by v cl ≡ Some a → saved_by w cl ≡ Some (asked_by r a)
    unfolding asked_option
    saved-some cl a e = saved-at cl ∙ ap asked_option e

    member-map : (x : ℕ) (xs : List ℕ) → T (member x xs) → T (member (r x) (map r xs))
    member-map x [] t = t
    member-map x (y ∷ xs) t = go (x == y) (r x == r y) (ren.apart x y) t (member-map x xs)
      where
        go : (a b : Bool) → b ≡ a → T (a || member x xs) → (T (member x xs) → T (member (r x) (map r xs))) → T (b || member (r x) (map r xs))
        go true true e t more = tt
        go true false e t more = absurd (subst T (sym e) tt)
        go false true e t more = tt
        go false false e t more = more t

    touched-at : (cl : Call) (x id : ℕ) → T (member x (plain v cl id).touched) → T (member (r x) (plain w cl (r id)).touched)
    touched-at cl x id t = subst (λ o. T (member (r x) o.touched)) (sym (plain-by r ren v w same cl id)) (member-map x (plain v cl id).touched t)

    -- where each id is another one's new name
    module _ (i : ℕ → ℕ) (back : (x : ℕ) → r (i x) ≡ x) where
      line-asks : (l : Line) (c : ℕ) (a : Asked) → LineAsks v l c a → LineAsks w l c (asked_by r a)
      line-asks (line.Call d cl) c a (inl (own, e)) = inl (own, saved-some cl a e)
      line-asks (line.Call d cl) c a (inr (other, x, is, touched)) = inr (other, r x, ap (asked_by r) is, λ id. subst (λ z. T (member (r x) (plain w cl z).touched)) (back id) (touched-at cl x (i id) (touched (i id))))
      line-asks (line.Push d n) c a (own, is) = (own, ap (asked_by r) is)
      line-asks line.Comment c a t = absurd t
      line-asks (line.Cut d) c a t = absurd t
      line-asks (line.Uncut d) c a t = absurd t
      line-asks (line.Drop d k n) c a t = absurd t
      line-asks (line.Repeat d k n) c a t = absurd t
      line-asks (line.Deliver d k n) c a t = absurd t
      line-asks (line.Resend d) c a t = absurd t
      line-asks (line.Crash d) c a t = absurd t
      line-asks (line.End d) c a t = absurd t
      line-asks line.Stop c a t = absurd t
      line-asks (line.Arm n ch) c a t = absurd t
      line-asks line.Restart c a t = absurd t

  -- Bases.

  module _ (base other : Base) (same : AreRenamed r base other) (i : ℕ → ℕ) (back : (x : ℕ) → r (i x) ≡ x) (ss : List Shown) where
    volumes : IsRenamed r (volume_behind base ss) (volume_behind other ss)
    volumes = subst (λ us. IsRenamed r (volume_behind base ss) (after other.volume us)) (sym (ap updates (kept-at r ren base other same (place ss)) ∙ updates-by r (kept base (place ss)))) (after-by r ren base.volume other.volume same.volume (updates (kept base (place ss))))

    operations-at : (c : ℕ) → operations other c ss ≡ map hold_by (operations base c ss)
    operations-at c = ap (of_issue c (begun (watch c ss)).starts) (issues-at r ren base other same (place ss)) ∙ of_issue-at c (begun (watch c ss)).starts (issued base (place ss))

    pub lies-by : (l : Line) (c n : ℕ) → (a : Asked) × LineAsks (volume_behind base ss) l c a × IsInClosureOf a (operations base c ss) n → (a : Asked) × LineAsks (volume_behind other ss) l c a × IsInClosureOf a (operations other c ss) n
    lies-by l c n (a, asks, inside) =
        (asked_by r a, line-asks (volume_behind base ss) (volume_behind other ss) volumes i back l c a asks, subst (λ ops. IsInClosureOf (asked_by r a) ops n) (sym (operations-at c)) (closed-by a (operations base c ss) n inside))
