-- Over a base with renamed ids fsync and sync cover the same operations.
use Rattle.std.proofs.Common.{◌≡◌, refl, sym, ap, ap₂, subst, ◌∙◌, inl, inr, ◌&&◌, ℕ, T, Bool, List, [], ◌∷◌, map}
use Rattle.std.specs.Prelude.{nat_le}
use Rattle.std.specs.List.{filter}
use Rattle.ec_volume.specs.Update.{has_operand, member}
use Rattle.ec_volume.specs.Volume.{after}
use Rattle.ec_volume.specs.declared.update.Update.{Update}
use Rattle.ec_plain.specs.Walk.{Path, Reached, walk, At, Not}
use Rattle.ec_plain.specs.declared.call.Call.TheVariants as call
use Rattle.ec_plain.specs.declared.call.Reply.TheVariants as reply
use Rattle.ec_order.specs.Order.{Issued, Holds, InClosure, ask, need, needs}
use Rattle.ec_history.specs.History.{Base, History, Op, updates, numbers, of_start, of_issue, kept, issued, asks, Covers}
use Rattle.ec_history.specs.declared.entry.Answer.TheVariants as answer
use Rattle.ec_history.specs.declared.entry.Entry.{Entry}
use Rattle.ec_history.specs.declared.entry.Entry.TheVariants as entry
use Rattle.ec_history.specs.OfLaws.Renaming.{IsRenaming}
use Rattle.ec_history.specs.OfLaws.Renamed.{AreRenamed, update_by, op_by}
use Rattle.ec_history.proofs.OfLaws.ForRenamed.Images.{operand-by}
use Rattle.ec_history.proofs.OfLaws.ForRenamed.Shapes.{after-by}
use Rattle.ec_history.proofs.OfLaws.ForRenamed.Walks.{reached_by, path-by}
use Rattle.ec_history.proofs.OfLaws.ForRenamed.Needs.{needs-at}
use Rattle.ec_history.proofs.OfLaws.ForRenamed.Mapped.{filter-map}
use Rattle.ec_history.proofs.OfLaws.ForRenamed.RenamedKept.{updates-by, kept-at, issues-at}

module _ (r : ℕ → ℕ) (ren : IsRenaming r) where
  -- Closures.

  abbrev hold_by : ℕ × Update → ℕ × Update
  hold_by x = (x.0, update_by r x.1)

  holds-by : (hs : Issued) (n : ℕ) (u : Update) → Holds hs n u → Holds (map hold_by hs) n (update_by r u)
  holds-by [] n u h = absurd h
  holds-by (x ∷ hs) n u (inl e) = inl (e.0, ap (update_by r) e.1)
  holds-by (x ∷ hs) n u (inr h) = inr (holds-by hs n u h)

  holds-back : (hs : Issued) (n : ℕ) (u : Update) → Holds (map hold_by hs) n u → (v : Update) × Holds hs n v × (u ≡ update_by r v)
  holds-back [] n u h = absurd h
  holds-back (x ∷ hs) n u (inl e) = (x.1, inl (e.0, refl), sym e.1)
  holds-back (x ∷ hs) n u (inr h) = let f = holds-back hs n u h in (f.0, inr f.1, f.2)

  closure-by : (asked : ℕ → Bool) (hs : Issued) {n : ℕ} → InClosure hs asked n → InClosure (map hold_by hs) asked n
  closure-by asked hs (ask n u h t) = ask n (update_by r u) (holds-by hs n u h) t
  closure-by asked hs (need m n a b h k l t c) =
      need m n (update_by r a) (update_by r b) (holds-by hs m a h) (holds-by hs n b k) l (subst T (sym (needs-at r ren a b)) t) (closure-by asked hs c)

  closure-back : (asked : ℕ → Bool) (hs : Issued) {n : ℕ} → InClosure (map hold_by hs) asked n → InClosure hs asked n
  closure-back asked hs (ask n u h t) = let f = holds-back hs n u h in ask n f.0 f.1 t
  closure-back asked hs (need m n a b h k l t c) =
      let f = holds-back hs m a h in
      let g = holds-back hs n b k in
      need m n f.0 g.0 f.1 g.1 l (subst T (ap₂ needs f.2 g.2 ∙ needs-at r ren f.0 g.0) t) (closure-back asked hs c)

  hold-pairs : (ks : List Op) → map (λ k. (k.number, k.update)) (map (op_by r) ks) ≡ map hold_by (map (λ k. (k.number, k.update)) ks)
  hold-pairs [] = refl
  hold-pairs (k ∷ ks) = ap (λ hs. (k.number, update_by r k.update) ∷ hs) (hold-pairs ks)

  of_issue-at : (c b : ℕ) (ks : List Op) → of_issue c b (map (op_by r) ks) ≡ map hold_by (of_issue c b ks)
  of_issue-at c b ks = ap (map (λ k. (k.number, k.update))) (filter-map (op_by r) (of_start c b) (of_start c b) (λ k. refl) ks) ∙ hold-pairs (filter (of_start c b) ks)

  numbers-at : (ks : List Op) → numbers (map (op_by r) ks) ≡ numbers ks
  numbers-at [] = refl
  numbers-at (k ∷ ks) = ap (λ ns. k.number ∷ ns) (numbers-at ks)

  -- What an entry asks.

  -- of these operations those of the start that were issued up to a place, on the object that is reached
  abbrev asked_of : ℕ → ℕ → ℕ → List Op → Reached → List ℕ
  asked_of c b g ks t = elim t [
    | At o ↦ numbers (filter (λ k. of_start c b k && nat_le k.place g && has_operand o k.update) ks)
    | Not f ↦ []
  ]

  asked_of-by : (c b g : ℕ) (ks : List Op) (t : Reached) → asked_of c b g (map (op_by r) ks) (reached_by r ren t) ≡ asked_of c b g ks t
  asked_of-by c b g ks (At o) =
      ap numbers (filter-map (op_by r) (λ k. of_start c b k && nat_le k.place g && has_operand (r o) k.update) (λ k. of_start c b k && nat_le k.place g && has_operand o k.update)
      (λ k. ap (λ x. of_start c b k && nat_le k.place g && x) (operand-by r ren o k.update)) ks)
      ∙ numbers-at (filter (λ k. of_start c b k && nat_le k.place g && has_operand o k.update) ks)
  asked_of-by c b g ks (Not f) = refl

  module _ (base other : Base) (same : AreRenamed r base other) where
    reached-at : (past : History) (path : Path) → (walk (after other.volume (updates (kept other past))) path).to ≡ reached_by r ren ((walk (after base.volume (updates (kept base past))) path).to)
    reached-at past path =
        ap (λ us. (walk (after other.volume us) path).to) (ap updates (kept-at r ren base other same past) ∙ updates-by r (kept base past))
        ∙ ap (λ x. x.to) (path-by r ren (after base.volume (updates (kept base past))) (after other.volume (map (update_by r) (updates (kept base past)))) (after-by r ren base.volume other.volume same.volume (updates (kept base past))) path)

    asks-at : (past : History) (e : ℕ × Entry) → asks other past e ≡ asks base past e
    asks-at past (p, entry.Call c b l g (call.Fsync path) (answer.Reply reply.Ok) op) =
        ap₂ (asked_of c b g) (issues-at r ren base other same past) (reached-at past path)
        ∙ asked_of-by c b g (issued base past) ((walk (after base.volume (updates (kept base past))) path).to)
    asks-at past (p, entry.Call c b l g call.Sync (answer.Reply reply.Ok) op) =
        ap (λ ks. numbers (filter (λ k. of_start c b k && nat_le k.place g) ks)) (issues-at r ren base other same past)
        ∙ ap numbers (filter-map (op_by r) (λ k. of_start c b k && nat_le k.place g) (λ k. of_start c b k && nat_le k.place g) (λ k. refl) (issued base past))
        ∙ numbers-at (filter (λ k. of_start c b k && nat_le k.place g) (issued base past))
    asks-at past _ = refl

    of_issues-at : (past : History) (c b : ℕ) → of_issue c b (issued other past) ≡ map hold_by (of_issue c b (issued base past))
    of_issues-at past c b = ap (of_issue c b) (issues-at r ren base other same past) ∙ of_issue-at c b (issued base past)

    module _ (past : History) (e : ℕ × Entry) (c b n : ℕ) where
      pub covers-by : Covers base past e c b n → Covers other past e c b n
      covers-by k =
          record {
            own = k.own;
            closed_in = subst (λ ns. InClosure (of_issue c b (issued other past)) (λ m. member m ns) n) (sym (asks-at past e))
                (subst (λ hs. InClosure hs (λ m. member m (asks base past e)) n) (sym (of_issues-at past c b)) (closure-by (λ m. member m (asks base past e)) (of_issue c b (issued base past)) k.closed_in));
            not_lost = k.not_lost;
          }

      pub covers-back : Covers other past e c b n → Covers base past e c b n
      covers-back k =
          record {
            own = k.own;
            closed_in = closure-back (λ m. member m (asks base past e)) (of_issue c b (issued base past))
                (subst (λ hs. InClosure hs (λ m. member m (asks base past e)) n) (of_issues-at past c b)
                (subst (λ ns. InClosure (of_issue c b (issued other past)) (λ m. member m ns) n) (asks-at past e) k.closed_in));
            not_lost = k.not_lost;
          }
