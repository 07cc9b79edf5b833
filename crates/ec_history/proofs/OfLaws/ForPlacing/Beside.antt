-- Histories that differ by entries of one start alone: what other starts' entries find behind them is the same.
use Rattle.std.proofs.Common.{◌≡◌, refl, sym, ap, subst, ◌∙◌, inl, inr, ◌+◌, ℕ, T, Bool, true, false, not, ◌==◌, ◌&&◌, ◌||◌, cond, map, List, [], ◌∷◌, ◌++◌, length, Option, Some, None}
use Rattle.std.proofs.lemmas.Bool.{cases_Bool, and_parts, and_from, eqb-true, true≢false}
use Rattle.std.specs.Prelude.{nat_le}
use Rattle.std.specs.List.{filter}
use Rattle.std.proofs.lemmas.List.Elements.{filter-append}
use Rattle.ec_volume.specs.Update.{has_operand, member}
use Rattle.ec_volume.specs.Volume.{after}
use Rattle.ec_plain.specs.Walk.{Reached, At, Not, walk}
use Rattle.ec_plain.specs.declared.call.Call.{Call}
use Rattle.ec_plain.specs.declared.call.Call.TheVariants as call
use Rattle.ec_plain.specs.declared.call.Reply.TheVariants as reply
use Rattle.ec_order.specs.Order.{InClosure}
use Rattle.ec_history.specs.History.{Base, History, Op, updates, numbers, same_start, of_start, outcome, kept, kept_next, issued, issued_by, of_issue, asks, is_entry_of, is_lost, Covers, owed, owed_next, meets, distinct_numbers, due}
use Rattle.ec_history.specs.Legal.{IsCall, IsNext, IsReported, IsFull, IsReply, is_op_of}
use Rattle.ec_history.specs.declared.entry.Answer.{Answer}
use Rattle.ec_history.specs.declared.entry.Answer.TheVariants as answer
use Rattle.ec_history.specs.declared.entry.Entry.{Entry}
use Rattle.ec_history.specs.declared.entry.Entry.TheVariants as entry
use Rattle.ec_history.proofs.OfLaws.ForPlacing.More.{kept-step, issued-step, owed-step, is_lost-append, count-step}
use Rattle.ec_history.proofs.OfLaws.ForPlacing.Numbers.{count}
use Rattle.ec_base.proofs.Numbers.{same-self as same_number}

-- starts that differ have no operation in common
pub apart : (c b d f : ℕ) → same_start c b d f ≡ false → (k : Op) → of_start c b k ≡ true → of_start d f k ≡ false
apart c b d f n k y = elim (cases_Bool (of_start d f k)) [
  | inr e ↦ e
  | inl e ↦
      let p = and_parts (c == k.clerk) (b == k.boot) y in
      let q = and_parts (d == k.clerk) (f == k.boot) e in
      let x : c ≡ d = eqb-true c k.clerk p.0 ∙ sym (eqb-true d k.clerk q.0) in
      let z : b ≡ f = eqb-true b k.boot p.1 ∙ sym (eqb-true f k.boot q.1) in
      absurd (true≢false (sym (subst (λ m. same_start c b m f ≡ true) x (subst (λ m. same_start c b c m ≡ true) z (and_from (c == c) (b == b) (same_number c) (same_number b)))) ∙ n))
]

-- what an fsync asks, by where its path comes to
abbrev pub asks_at : ℕ → ℕ → ℕ → Reached → List Op → List ℕ
asks_at d f g r is = elim r [ At i ↦ numbers (filter (λ k. of_start d f k && nat_le k.place g && has_operand i k.update) is) | Not n ↦ [] ]

module _ (base : Base) (c b : ℕ) where
  abbrev pub Other : ℕ → ℕ → Type 0
  Other d f = same_start c b d f ≡ false

  pub record IsBeside (past later : History) : Type 0 where
    pub keeps : kept base later ≡ kept base past
    pub issues : (r : Op → Bool) → ((k : Op) → of_start c b k ≡ true → r k ≡ false) → filter r (issued base later) ≡ filter r (issued base past)
    pub loses : (d f n : ℕ) → Other d f → is_lost d f n later ≡ is_lost d f n past
    pub owes : (d f : ℕ) → Other d f → owed base later d f ≡ owed base past d f
    pub counts : (d f : ℕ) → Other d f → count d f later ≡ count d f past

  pub beside-next : (past later : History) (e : ℕ × Entry) → IsBeside past later → IsBeside (past ++ e ∷ []) (later ++ e ∷ [])
  beside-next past later e h = record {
    keeps = kept-step base later e ∙ ap (λ ks. kept_next base ks e) h.keeps ∙ sym (kept-step base past e);
    issues = λ r n.
        ap (filter r) (issued-step base later e)
        ∙ filter-append r (issued base later) (issued_by base (kept base later) e)
        ∙ ap (λ x. x ++ filter r (issued_by base (kept base later) e)) (h.issues r n)
        ∙ ap (λ ks. filter r (issued base past) ++ filter r (issued_by base ks e)) h.keeps
        ∙ sym (filter-append r (issued base past) (issued_by base (kept base past) e))
        ∙ ap (filter r) (sym (issued-step base past e));
    loses = λ d f n o. is_lost-append d f n later (e ∷ []) ∙ ap (λ x. x || is_lost d f n (e ∷ [])) (h.loses d f n o) ∙ sym (is_lost-append d f n past (e ∷ []));
    owes = λ d f o.
        owed-step base later e d f
        ∙ ap (λ ks. owed_next base d f ks (owed base later d f) e) h.keeps
        ∙ ap (λ qs. owed_next base d f (kept base past) qs e) (h.owes d f o)
        ∙ sym (owed-step base past e d f);
    counts = λ d f o. count-step d f later e ∙ ap (λ n. n + length (cond (is_op_of d f e) (e ∷ []) [])) (h.counts d f o) ∙ sym (count-step d f past e);
  }

  module _ (past later : History) (h : IsBeside past later) where
    rejects : (d f : ℕ) → Other d f → (q : Op → Bool) (k : Op) → of_start c b k ≡ true → (of_start d f k && q k) ≡ false
    rejects d f o q k y = ap (λ x. x && q k) (apart c b d f o k y)

    -- an entry of another start asks and covers the same
    asks-same : (e : ℕ × Entry) → is_entry_of c b e.1 ≡ false → asks base later e ≡ asks base past e
    asks-same (p, entry.Call d f l g (call.Fsync path) (answer.Reply reply.Ok) op) o =
        ap (λ ks. asks_at d f g (walk (after base.volume (updates ks)) path).to (issued base later)) h.keeps ∙ go (walk (after base.volume (updates (kept base past))) path).to
      where
        none : (i : ℕ) (k : Op) → of_start c b k ≡ true → (of_start d f k && nat_le k.place g && has_operand i k.update) ≡ false
        none i k y = ap (λ x. x && nat_le k.place g && has_operand i k.update) (apart c b d f o k y)

        go : (r : Reached) → asks_at d f g r (issued base later) ≡ asks_at d f g r (issued base past)
        go (At i) = ap numbers (h.issues (λ k. of_start d f k && nat_le k.place g && has_operand i k.update) (none i))
        go (Not n) = refl
    asks-same (p, entry.Call d f l g call.Sync (answer.Reply reply.Ok) op) o =
        ap numbers (h.issues (λ k. of_start d f k && nat_le k.place g) (rejects d f o (λ k. nat_le k.place g)))
    asks-same e o = refl

    pub covers-same : (e : ℕ × Entry) (d f n : ℕ) → is_entry_of c b e.1 ≡ false → Other d f → Covers base later e d f n → Covers base past e d f n
    covers-same e d f n o q v = record {
      own = v.own;
      closed_in =
          subst (λ ns. InClosure (of_issue d f (issued base past)) (λ m. member m ns) n) (asks-same e o)
          (subst (λ is. InClosure is (λ m. member m (asks base later e)) n) (ap (λ ks. map (λ k. (k.number, k.update)) ks) (h.issues (of_start d f) (apart c b d f q))) v.closed_in);
      not_lost = subst (λ x. T (not x)) (h.loses d f n q) v.not_lost;
    }

    due-same : (d f p : ℕ) (cl : Call) → Other d f → due base later d f p cl ≡ due base past d f p cl
    due-same d f p cl o =
        ap (λ ks. distinct_numbers (filter (meets (outcome base ks p cl) cl) (owed base later d f))) h.keeps
        ∙ ap (λ qs. distinct_numbers (filter (meets (outcome base (kept base past) p cl) cl) qs)) (h.owes d f o)

    pub call-same : (most d f p : ℕ) (cl : Call) (a : Answer) (op : Option ℕ) → Other d f → IsCall base most past d f p cl a op → IsCall base most later d f p cl a op
    call-same most d f p cl a op o t = record {
      number = next op t.number;
      report = subst (λ ns. IsReported ns a) (sym (due-same d f p cl o)) t.report;
      room = subst (λ ks. IsFull most (outcome base ks p cl) a) (sym h.keeps) t.room;
      reply = subst (λ ks. IsReply (outcome base ks p cl) a op) (sym h.keeps) t.reply;
    }
      where
        next : (x : Option ℕ) → IsNext d f past x → IsNext d f later x
        next None e = tt
        next (Some n) e = e ∙ ap (λ m. m + 1) (sym (h.counts d f o))
