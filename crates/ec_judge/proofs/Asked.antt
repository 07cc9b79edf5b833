-- What a call asks to be durable, by what its start issued.
use Rattle.std.proofs.Common.{◌≡◌, refl, sym, ap, ◌∙◌, arith, ℕ, suc, Bool, true, false, ◌&&◌, cond, map, List, [], ◌∷◌, Option, Some, None, length, ◌+◌, ◌-◌}
use Rattle.std.specs.Prelude.{nat_le, slice_get}
use Rattle.std.specs.List.{filter}
use Rattle.ec_volume.specs.Entries.{entry}
use Rattle.ec_volume.specs.Image.{is_gone}
use Rattle.ec_volume.specs.declared.image.Image.{Image}
use Rattle.ec_volume.specs.declared.image.Image.TheVariants.{Gone, File, Dir}
use Rattle.ec_plain.specs.declared.call.Refusal.{Refusal}
use Rattle.ec_plain.specs.declared.call.Refusal.TheVariants as no
use Rattle.ec_volume.specs.Update.{root, has_operand}
use Rattle.ec_volume.specs.Volume.{Images, after}
use Rattle.ec_volume.specs.declared.update.Update.{Update}
use Rattle.ec_plain.specs.Walk.{walk, walk_from, Walk, Reached, At, Not, stop}
use Rattle.ec_plain.specs.Plain.{plain, on_reached, answers}
use Rattle.ec_plain.specs.declared.call.Outcome.{Outcome}
use Rattle.ec_plain.specs.declared.call.Call.{Call}
use Rattle.ec_plain.specs.declared.call.Call.TheVariants as call
use Rattle.ec_plain.specs.declared.call.Reply.TheVariants as reply
use Rattle.ec_history.specs.History.{Base, History, Op, updates, numbers, of_start, of_issue, kept, issued, asks}
use Rattle.ec_history.specs.Legal.{IsReply}
use Rattle.ec_history.specs.declared.entry.Answer.{Answer}
use Rattle.ec_history.specs.declared.entry.Answer.TheVariants as answer
use Rattle.ec_history.specs.declared.entry.Entry.TheVariants as entry
use Rattle.ec_pending.specs.declared.issue.Issue.{Issue}
use Rattle.ec_pending.specs.declared.asked.Asked.TheVariants as asked
use Rattle.ec_judge.specs.Carried.{issue_of, issues_in}
use Rattle.ec_pending.specs.Pending.{numbers_in, numbered, is_asked}
use Rattle.ec_judge.specs.Asks.{asked_on, asked_by_call}
use Rattle.ec_plain.proofs.WalkLemmas.{same-at}

regroup : (p q r : Op → Bool) (ks : List Op) → filter (λ k. (p k && q k) && r k) ks ≡ filter (λ k. p k && (q k && r k)) ks
regroup p q r [] = refl
regroup p q r (k ∷ ks) = ap (λ l. cond ((p k && q k) && r k) (k ∷ l) l) (regroup p q r ks) ∙ ap (λ x. cond x (k ∷ filter (λ k. p k && (q k && r k)) ks) (filter (λ k. p k && (q k && r k)) ks)) (go (p k))
  where
    go : (x : Bool) → ((x && q k) && r k) ≡ (x && (q k && r k))
    go true = refl
    go false = refl

module _ (c b : ℕ) where
  own-part : (q : Op → Bool) (ks : List Op) → filter (λ k. of_start c b k && q k) ks ≡ filter q (filter (of_start c b) ks)
  own-part q [] = refl
  own-part q (k ∷ ks) = go (of_start c b k) (own-part q ks)
    where
      go : (x : Bool) → filter (λ k. of_start c b k && q k) ks ≡ filter q (filter (of_start c b) ks) → cond (x && q k) (k ∷ filter (λ k. of_start c b k && q k) ks) (filter (λ k. of_start c b k && q k) ks) ≡ filter q (cond x (k ∷ filter (of_start c b) ks) (filter (of_start c b) ks))
      go true r = ap (λ l. cond (q k) (k ∷ l) l) r
      go false r = r

  of-issues : (q : Issue → Bool) (ks : List Op) → numbers (filter (λ k. q (issue_of k)) ks) ≡ numbers_in (filter q (map issue_of ks))
  of-issues q [] = refl
  of-issues q (k ∷ ks) = go (q (issue_of k)) (of-issues q ks)
    where
      go : (x : Bool) → numbers (filter (λ k. q (issue_of k)) ks) ≡ numbers_in (filter q (map issue_of ks)) → numbers (cond x (k ∷ filter (λ k. q (issue_of k)) ks) (filter (λ k. q (issue_of k)) ks)) ≡ numbers_in (cond x (issue_of k ∷ filter q (map issue_of ks)) (filter q (map issue_of ks)))
      go true r = ap (λ l. k.number ∷ l) r
      go false r = r

  issues-numbered : (ks : List Op) → map {B = ℕ × Update} (λ k. (k.number, k.update)) ks ≡ numbered (map issue_of ks)
  issues-numbered [] = refl
  issues-numbered (k ∷ ks) = ap (λ l. (k.number, k.update) ∷ l) (issues-numbered ks)

  none-of : (ks : List Issue) → [] ≡ numbers_in (filter (λ i. false) ks)
  none-of [] = refl
  none-of (k ∷ ks) = none-of ks

  pub issue-same : (ks : List Op) → of_issue c b ks ≡ numbered (issues_in c b ks)
  issue-same ks = issues-numbered (filter (of_start c b) ks)

  module _ (base : Base) (past : History) where
    all-of : (q : Issue → Bool) → numbers (filter (λ k. of_start c b k && q (issue_of k)) (issued base past)) ≡ numbers_in (filter q (issues_in c b (issued base past)))
    all-of q = ap numbers (own-part (λ k. q (issue_of k)) (issued base past)) ∙ of-issues q (filter (of_start c b) (issued base past))

    pub asks-same : (p l g : ℕ) (cl : Call) (a : Answer) (op : Option ℕ) → asks base past (p, entry.Call c b l g cl a op) ≡ numbers_in (filter (is_asked (asked_on (after base.volume (updates (kept base past))) g cl a)) (issues_in c b (issued base past)))
    asks-same p l g (call.Fsync path) (answer.Reply reply.Ok) op = go ((walk (after base.volume (updates (kept base past))) path).to)
      where
        go : (r : Reached) → ◌≡◌ {A = List ℕ} (elim r [ At o ↦ numbers (filter (λ k. of_start c b k && nat_le k.place g && has_operand o k.update) (issued base past)) | Not n ↦ [] ])
            (numbers_in (filter (is_asked (elim r [ At o ↦ asked.On o g | Not n ↦ asked.Nothing ])) (issues_in c b (issued base past))))
        go (At o) = ap numbers (regroup (λ k. of_start c b k) (λ k. nat_le k.place g) (λ k. has_operand o k.update) (issued base past)) ∙ all-of (λ i. nat_le i.place g && has_operand o i.update)
        go (Not n) = none-of (issues_in c b (issued base past))
    asks-same p l g call.Sync (answer.Reply reply.Ok) op = all-of (λ i. nat_le i.place g)
    asks-same p l g cl a op = none-of (issues_in c b (issued base past))

-- A walk that reaches an object read it last.

abbrev last-of : List ℕ → Option ℕ
last-of os = slice_get os (length os - 1)

last-more : (o : ℕ) (os : List ℕ) (p : ℕ) → last-of os ≡ Some p → last-of (o ∷ os) ≡ Some p
last-more o [] p e = absurd (none e)
  where
    none : ◌≡◌ {A = Option ℕ} None (Some p) → ⊥
    none e = cc
last-more o (n ∷ os) p e = ap (slice_get (o ∷ n ∷ os)) (count (length os)) ∙ e
  where
    count : (k : ℕ) → suc (suc k) - 1 ≡ suc (suc k - 1)
    count k = omega arith

abbrev read-of : Walk → List ℕ
read-of w = w.read

-- one more name, by what the object is
module _ (v : Images) (p : ℕ) (n : List ℕ) where
  abbrev next-of : ℕ → Image → (ℕ → Walk) → Walk
  next-of i x f = elim x [ Gone ↦ stop (Not (no.NotFound i)) | File m s w bs ↦ stop (Not (no.NotDir i)) | Dir m s w es ↦ elim (entry es n) [ None ↦ stop (Not (no.NotFound (i + 1))) | Some q ↦ f q ] ]

  not-at : (r : Refusal) → ◌≡◌ {A = Reached} (Not r) (At p) → ⊥
  not-at r e = cc

  abbrev found-of : Refusal → Option ℕ → (ℕ → Walk) → Walk
  found-of r x f = elim x [ None ↦ stop (Not r) | Some q ↦ f q ]

  found-last : (r : Refusal) (x : Option ℕ) (f : ℕ → Walk) → ((q : ℕ) → (f q).to ≡ At p → last-of (f q).read ≡ Some p) → (found-of r x f).to ≡ At p → last-of (found-of r x f).read ≡ Some p
  found-last r None f h e = absurd (not-at r e)
  found-last r (Some q) f h e = h q e

  next-last : (i : ℕ) (x : Image) (f : ℕ → Walk) → ((q : ℕ) → (f q).to ≡ At p → last-of (f q).read ≡ Some p) → (next-of i x f).to ≡ At p → last-of (next-of i x f).read ≡ Some p
  next-last i Gone f h e = absurd (not-at _ e)
  next-last i (File m s w bs) f h e = absurd (not-at _ e)
  next-last i (Dir m s w es) f h e = found-last _ (entry es n) f h e

end-last : (i o p : ℕ) (b : Bool) → cond b (Not (no.NotFound i)) (At o) ≡ At p → Some o ≡ Some p
end-last i o p true e = absurd (not e)
  where
    not : ◌≡◌ {A = Reached} (Not (no.NotFound i)) (At p) → ⊥
    not e = cc
end-last i o p false e = ap Some (same-at o p e)

pub walk-last : (v : Images) (i o : ℕ) (ns : List (List ℕ)) (p : ℕ) → (walk_from v i o ns).to ≡ At p → last-of (walk_from v i o ns).read ≡ Some p
walk-last v i o [] p e = end-last i o p (is_gone (v o)) e
walk-last v i o (n ∷ ns) p e = last-more o (next-of v p n i (v o) (λ q. walk_from v (i + 1) q ns)).read p (next-last v p n i (v o) (λ q. walk_from v (i + 1) q ns) (λ q h. walk-last v (i + 1) q ns p h) e)

-- What an answered call asks, by what it touched.
pub asked-same : (v : Images) (f : ℕ) (out : Outcome) (g : ℕ) (cl : Call) (a : Answer) (op : Option ℕ) → out ≡ plain v cl f → IsReply out a op → asked_by_call out.touched g cl a ≡ asked_on v g cl a
asked-same v f out g (call.Fsync path) (answer.Reply reply.Ok) op e r = reached ((walk v path).to) refl
  where
    ok : reply.Ok ≡ (plain v (call.Fsync path) f).reply
    ok = r.0 ∙ ap (λ o. o.reply) e

    not-ok : (n : Refusal) → reply.Ok ≡ reply.Refused n → ⊥
    not-ok n e = cc

    reached : (t : Reached) → (walk v path).to ≡ t → asked_by_call out.touched g (call.Fsync path) (answer.Reply reply.Ok) ≡ asked_on v g (call.Fsync path) (answer.Reply reply.Ok)
    reached (At o) q =
        ap (λ os. elim (slice_get os (length os - 1)) [ Some o ↦ asked.On o g | None ↦ asked.Nothing ]) (ap (λ x. x.touched) e ∙ ap (λ t. (on_reached (record { to = t; read = (walk v path).read }) (λ o os. answers reply.Ok os)).touched) q)
        ∙ ap (λ x. elim x [ Some o ↦ asked.On o g | None ↦ asked.Nothing ]) (walk-last v 0 root path o q)
        ∙ sym (ap (λ t. elim t [ At o ↦ asked.On o g | Not r ↦ asked.Nothing ]) q)
    reached (Not n) q = absurd (not-ok n (ok ∙ ap (λ t. (on_reached (record { to = t; read = (walk v path).read }) (λ o os. answers reply.Ok os)).reply) q))
asked-same v f out g call.Sync (answer.Reply reply.Ok) op e r = refl
asked-same v f out g cl a op e r = refl
