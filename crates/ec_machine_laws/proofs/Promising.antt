-- What an answered fsync or sync covers is done with.
use Rattle.std.proofs.Common.{◌≡◌, refl, sym, subst, inl, inr, arith, ◌≤◌, ℕ, T, Bool, true, false, not, ◌==◌, ◌&&◌, ◌||◌, cond, List, [], ◌∷◌}
use Rattle.std.specs.Prelude.{map, nat_le, Option}
use Rattle.std.specs.List.{filter, list_all}
use Rattle.std.proofs.lemmas.Bool.{or_cases, eqb-true}
use Rattle.std.proofs.lemmas.Bool.Decides.{nat_tests}
use Rattle.ec_volume.specs.Update.{has_operand, member}
use Rattle.ec_volume.specs.Volume.{after}
use Rattle.ec_volume.specs.declared.update.Update.{Update}
use Rattle.ec_plain.specs.Walk.{Path, At, Not, walk}
use Rattle.ec_plain.specs.declared.call.Call.TheVariants as call
use Rattle.ec_plain.specs.declared.call.Reply.TheVariants as reply
use Rattle.ec_order.specs.Order.{Holds}
use Rattle.ec_history.specs.History.{Base, History, Op, updates, numbers, of_start, kept, issued, of_issue, asks, Covers}
use Rattle.ec_history.specs.declared.entry.Answer.TheVariants as answer
use Rattle.ec_history.specs.declared.entry.Entry.TheVariants as entry
use Rattle.ec_log.specs.Log.{is_asked, first}
use Rattle.ec_log.specs.declared.state.Asked.{Asked}
use Rattle.ec_log.specs.declared.state.Asked.TheVariants.{Object, All}
use Rattle.ec_log.specs.declared.state.LogState.{LogState}
use Rattle.ec_machine_laws.specs.Picks.{IsRest}
use Rattle.ec_machine_laws.specs.Covers.{AreIssuedBy, IsFirstAfter}
use Rattle.ec_machine_laws.proofs.Holding.{one-update}
use Rattle.ec_machine_laws.proofs.Picking.{done-before}
use Rattle.ec_base.proofs.Bools.{first as left, right, on as holds, implied, is-true}

-- an operation of this number that passes the test q; it passes each test p that all pass
record Asked-op (c b n : ℕ) (q p : Op → Bool) (ks : List Op) : Type 0 where
  op : Op
  number : op.number ≡ n
  asked : T (q op)
  held : T (of_start c b op) → Holds (of_issue c b ks) op.number op.update
  passes : T (list_all p ks) → T (p op)

asked-op : (c b n : ℕ) (q p : Op → Bool) (ks : List Op) → T (member n (numbers (filter q ks))) → Asked-op c b n q p ks
asked-op c b n q p [] h = absurd h
asked-op c b n q p (k ∷ ks) h = go (q k) refl h (asked-op c b n q p ks)
  where
    later : Asked-op c b n q p ks → Asked-op c b n q p (k ∷ ks)
    later f = record {
      op = f.op;
      number = f.number;
      asked = f.asked;
      held = λ s. skip (of_start c b k) (f.held s);
      passes = λ a. f.passes (right (p k) (list_all p ks) a);
    }
      where
        skip : (t : Bool) → Holds (of_issue c b ks) f.op.number f.op.update → Holds (map (λ j. (j.number, j.update)) (cond t (k ∷ filter (of_start c b) ks) (filter (of_start c b) ks))) f.op.number f.op.update
        skip true x = inr x
        skip false x = x

    here : (k.number ≡ n) → T (q k) → Asked-op c b n q p (k ∷ ks)
    here e t = record {
      op = k;
      number = e;
      asked = t;
      held = λ s. subst (λ i. Holds (map (λ j. (j.number, j.update)) (cond i (k ∷ filter (of_start c b) ks) (filter (of_start c b) ks))) k.number k.update) (sym (is-true _ s)) (inl (refl, refl));
      passes = λ a. left (p k) (list_all p ks) a;
    }

    go : (t : Bool) → q k ≡ t → T (member n (numbers (cond t (k ∷ filter q ks) (filter q ks)))) → (T (member n (numbers (filter q ks))) → Asked-op c b n q p ks) → Asked-op c b n q p (k ∷ ks)
    go true e m r = elim (or_cases (n == k.number) (member n (numbers (filter q ks))) (is-true _ m)) [
      | inl s ↦ here (sym (eqb-true n k.number s)) (holds e)
      | inr s ↦ later (r (holds s))
    ]
    go false e m r = later (r m)

module _ (base : Base) (past : History) (c b begun begop : ℕ) (l : LogState) (done : ℕ → Bool) (r : IsRest (of_issue c b (issued base past)) done l) (i : AreIssuedBy base past c b begun begop) where
  -- operations that pass a test within those issued in time
  in-time : (a : Asked) (q : Op → Bool) → ((k : Op) → T (q k) → T (of_start c b k && nat_le k.place begun) × T (is_asked a (k.number, k.update)))
      → (n : ℕ) (u : Update) → Holds (of_issue c b (issued base past)) n u → T (member n (numbers (filter q (issued base past)))) → (n ≤ begop) × T (is_asked a (n, u))
  in-time a q h n u k m =
      let f = asked-op c b n q (λ k. not (of_start c b k && nat_le k.place begun) || nat_le k.number begop) (issued base past) m in
      let t = h f.op f.asked in
      let own : T (of_start c b f.op) = left (of_start c b f.op) (nat_le f.op.place begun) t.0 in
      let same : f.op.update ≡ u = one-update (of_issue c b (issued base past)) r.sorted n f.op.update u (subst (λ j. Holds (of_issue c b (issued base past)) j f.op.update) f.number (f.held own)) k in (
        at-most f.op.number n f.number (implied (of_start c b f.op && nat_le f.op.place begun) (nat_le f.op.number begop) (f.passes i) t.0),
        subst (λ w. T (is_asked a (n, w))) same (subst (λ j. T (is_asked a (j, f.op.update))) f.number t.1),
      )
    where
      at-most : (m n : ℕ) → m ≡ n → T (nat_le m begop) → n ≤ begop
      at-most m n e t = bound (is-true _ t)
        where
          bound : nat_le m begop ≡ true → n ≤ begop
          bound h = grind (arith, nat_tests, e)

  pub fsync-covers : (p li : ℕ) (path : Path) (op : Option ℕ) (o : ℕ) → (walk (after base.volume (updates (kept base past))) path).to ≡ At o → IsFirstAfter begop (first (Object o) l)
      → (n : ℕ) → Covers base past (p, entry.Call c b li begun (call.Fsync path) (answer.Reply reply.Ok) op) c b n → T (done n)
  fsync-covers p li path op o w f n v =
      done-before (of_issue c b (issued base past)) done l r (Object o) begop (λ m. member m (asks base past (p, entry.Call c b li begun (call.Fsync path) (answer.Reply reply.Ok) op))) f
      (λ m u h t. in-time (Object o) (λ k. of_start c b k && nat_le k.place begun && has_operand o k.update) (λ k z. parts (of_start c b k) (nat_le k.place begun) (has_operand o k.update) z) m u h
      (subst (λ x. T (member m (elim x as (λ y. List ℕ) [ At d ↦ numbers (filter (λ k. of_start c b k && nat_le k.place begun && has_operand d k.update) (issued base past)) | Not y ↦ [] ]))) w t)) n v.closed_in
    where
      parts : (x y z : Bool) → T (x && y && z) → T (x && y) × T z
      parts true true z h = (tt, h)
      parts true false z h = absurd h
      parts false y z h = absurd h

  pub sync-covers : (p li : ℕ) (op : Option ℕ) → IsFirstAfter begop (first All l) → (n : ℕ) → Covers base past (p, entry.Call c b li begun call.Sync (answer.Reply reply.Ok) op) c b n → T (done n)
  sync-covers p li op f n v =
      done-before (of_issue c b (issued base past)) done l r All begop (λ m. member m (asks base past (p, entry.Call c b li begun call.Sync (answer.Reply reply.Ok) op))) f
      (λ m u h t. in-time All (λ k. of_start c b k && nat_le k.place begun) (λ k z. (z, tt)) m u h t) n v.closed_in
