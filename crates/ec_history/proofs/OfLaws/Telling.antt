-- One more line, of whatever kind, tells what became of operations.
use Rattle.std.proofs.Common.{◌≡◌, refl, sym, ap, subst, ◌∙◌, inl, inr, arith, ◌⊎◌, ◌+◌, ◌≤◌, ℕ, T, Bool, true, false, not, ◌==◌, ◌&&◌, cond, length, List, [], ◌∷◌, ◌++◌, Option, Some, None}
use Rattle.std.specs.List.{filter}
use Rattle.std.proofs.lemmas.Bool.{cond_both}
use Rattle.ec_volume.specs.Image.{is_id}
use Rattle.ec_volume.specs.Update.{listed, member}
use Rattle.ec_plain.specs.declared.call.Call.{Call}
use Rattle.ec_history.specs.History.{Base, History, Op, Each, Throughout, kept, issued, is_lost}
use Rattle.ec_history.specs.Legal.{IsLegal, is_op_of}
use Rattle.ec_history.specs.Lines.{durable, made_durable, IsCovered, AreCovered}
use Rattle.ec_history.specs.Placing.{watch, watch_next, begun, gives_entry, place, MayFollow}
use Rattle.ec_history.specs.declared.entry.Answer.{Answer}
use Rattle.ec_history.specs.declared.entry.Entry.{Entry}
use Rattle.ec_history.specs.declared.entry.Entry.TheVariants as entry
use Rattle.ec_history.specs.declared.watch.Watch.{Watch}
use Rattle.ec_history.specs.declared.shown.Shown.{Shown}
use Rattle.ec_history.specs.declared.shown.Shown.TheVariants.{Waits, Answered, Durable, Ended, Told, Crashed}
use Rattle.ec_history.proofs.OfLaws.ForPlacing.Cuts.{placeable-split, throughout-append}
use Rattle.ec_history.proofs.OfLaws.ForPlacing.Held.{place-other}
use Rattle.ec_history.proofs.OfLaws.ForPlacing.Late.{place-ended}
use Rattle.ec_history.proofs.OfLaws.ForPlacing.Numbers.{kept-each}
use Rattle.ec_history.proofs.OfLaws.ForPlacing.Places.{covered-longer}
use Rattle.ec_history.specs.OfLaws.Accounts.{IsUndurable, IsAccounted, LinesTell}
use Rattle.ec_history.specs.OfLaws.Laws.{OneMore}
use Rattle.ec_history.proofs.OfLaws.Unlost.{kept-unlost}
use Rattle.ec_history.proofs.OfLaws.Watched.{Has, begun-has, has-begun}
use Rattle.ec_history.proofs.OfLaws.Accounting.{Accounts, Named, accounts-durable, accounts-quiet, named-durable, named-quiet}
use Rattle.ec_history.proofs.OfLaws.Ending.{accounts-ended, named-ended}
use Rattle.ec_history.proofs.OfLaws.Answered.{accounts-answered, covered-answered, named-answered}
use Rattle.ec_base.proofs.Bools.{on, is-true as is_on}

pub nothing-tells : (base : Base) → LinesTell base []
nothing-tells base = record { accounts = λ c b. tt; apart = λ c b n u. absurd u.among; counted = λ c b n k. elim k [ inl t ↦ absurd t | inr u ↦ absurd u.among ]; covered = tt }

module _ (base : Base) (most : ℕ) (ss : List Shown) where
  abbrev Tells : Shown → Type 0
  Tells s = OneMore base most ss s → LinesTell base ss → LinesTell base (ss ++ s ∷ [])

  -- a line that leaves what is open, and gives no entry
  quiet : (s : Shown) → ((c b : ℕ) (w : Watch) → gives_entry c b w s ≡ false) → ((c b n : ℕ) (w : Watch) → Has b n w → Has b n (watch_next c w s)) → ((c b n : ℕ) (w : Watch) → Has b n (watch_next c w s) → Has b n w)
      → ((c b : ℕ) → made_durable c b (watch c ss) s ≡ []) → Tells s
  quiet s gives there back none more t =
      let m = named-quiet ss s gives (λ c b n. there c b n (watch c ss)) (λ c b n. back c b n (watch c ss)) none record { apart = t.apart; counted = t.counted } in
      record {
        accounts = accounts-quiet ss s gives (λ c b n. there c b n (watch c ss)) (λ c b n. back c b n (watch c ss)) none base t.accounts;
        apart = m.apart;
        counted = m.counted;
        covered = covered-longer base ss s (subst (Throughout (IsCovered base ss) []) (sym (place-other ss s gives)) t.covered);
      }

  answered : (l c : ℕ) (cl : Call) (a : Answer) (op : Option ℕ) → Tells (Answered l c cl a op)
  answered l c cl a op more t =
      let acc = accounts-answered base most ss c l cl a op more t.accounts in
      let m = named-answered base most ss c l cl a op more record { apart = t.apart; counted = t.counted } in
      record { accounts = acc; apart = m.apart; counted = m.counted; covered = covered-longer base ss (Answered l c cl a op) (covered-answered base most ss c l cl a op more acc t.covered) }

  durables : (d : ℕ) (ns : List ℕ) → Tells (Durable d ns)
  durables d ns more t =
      let m = named-durable ss d ns (placeable-split ss (Durable d ns ∷ []) more.placeable).1.0 record { apart = t.apart; counted = t.counted } in
      record {
        accounts = accounts-durable ss d ns base t.accounts;
        apart = m.apart;
        counted = m.counted;
        covered = covered-longer base ss (Durable d ns) (subst (Throughout (IsCovered base ss) []) (sym (place-other ss (Durable d ns) (λ c b w. refl))) t.covered);
      }

  ended : (d : ℕ) (ns : List ℕ) → Tells (Ended d ns)
  ended d ns more t =
      let m = named-ended ss d ns record { apart = t.apart; counted = t.counted } in
      record {
        accounts = accounts-ended ss d ns (placeable-split ss (Ended d ns ∷ []) more.placeable).1.0.1 base t.accounts;
        apart = m.apart;
        counted = m.counted;
        covered = covered-longer base ss (Ended d ns) (subst (Throughout (IsCovered base ss) []) (sym (place-ended ss d ns)) (throughout-append (IsCovered base ss) [] (place ss) (_ ∷ []) t.covered (tt, tt)));
      }

  pub one-more : (s : Shown) → Tells s
  one-more (Answered l c cl a op) = answered l c cl a op
  one-more (Durable d ns) = durables d ns
  one-more (Ended d ns) = ended d ns
  one-more (Waits l d cl) = quiet (Waits l d cl) (λ c b w. refl) (λ c b n w h. cond_both (c == d) (begun w) w (Has b n) (λ e. has-begun b n w h) (λ e. h))
      (λ c b n w h. cond_both (c == d) (begun w) w (λ v. Has b n v → Has b n w) (λ e x. begun-has b n w x) (λ e x. x) h) (λ c b. refl)
  one-more (Told d ns) = quiet (Told d ns) (λ c b w. refl) (λ c b n w h. cond_both (c == d) (record w { untold = None }) w (Has b n) (λ e. h) (λ e. h))
      (λ c b n w h. cond_both (c == d) (record w { untold = None }) w (λ v. Has b n v → Has b n w) (λ e x. x) (λ e x. x) h) (λ c b. refl)
  one-more (Crashed d) = quiet (Crashed d) (λ c b w. refl) (λ c b n w h. cond_both (c == d) (record w { running = false; early = []; untold = None; crashed = true }) w (Has b n) (λ e. h) (λ e. h))
      (λ c b n w h. cond_both (c == d) (record w { running = false; early = []; untold = None; crashed = true }) w (λ v. Has b n v → Has b n w) (λ e x. x) (λ e x. x) h) (λ c b. refl)
  one-more s = quiet s (λ c b w. refl) (λ c b n w h. h) (λ c b n w h. h) (λ c b. refl)

-- What is kept is durable, or still undurable.
module _ (base : Base) (most : ℕ) (ss : List Shown) (legal : IsLegal base most (place ss)) (t : LinesTell base ss) where
  same-self : (k : Op) → ((k.clerk == k.clerk) && (k.boot == k.boot)) ≡ true
  same-self k = and-self (k.clerk == k.clerk) (k.boot == k.boot) (grind arith) (grind arith)
    where
      and-self : (x y : Bool) → x ≡ true → y ≡ true → (x && y) ≡ true
      and-self true y p q = q
      and-self false y p q = absurd (on p)

  pub kept-told : Each (λ k. T (member k.number (durable k.clerk k.boot ss)) ⊎ IsUndurable k.clerk k.boot k.number ss) (kept base (place ss))
  kept-told = pick (kept base (place ss)) (kept-each base (λ k. IsAccounted k.clerk k.boot k.number ss) (place ss) (each (issued base (place ss)) (λ c b. t.accounts c b))) (kept-unlost base most (place ss) legal)
    where
      each : (ks : List Op) → ((c b : ℕ) → Each (λ k. ((c == k.clerk) && (b == k.boot)) ≡ true → IsAccounted c b k.number ss) ks) → Each (λ k. IsAccounted k.clerk k.boot k.number ss) ks
      each [] f = tt
      each (k ∷ ks) f = ((f k.clerk k.boot).0 (same-self k), each ks (λ c b. (f c b).1))

      pick : (ks : List Op) → Each (λ k. IsAccounted k.clerk k.boot k.number ss) ks → Each (λ k. T (is_lost k.clerk k.boot k.number (place ss)) → ⊥) ks
          → Each (λ k. T (member k.number (durable k.clerk k.boot ss)) ⊎ IsUndurable k.clerk k.boot k.number ss) ks
      pick [] x y = tt
      pick (k ∷ ks) x y = (elim x.0 [ inl d ↦ inl d | inr (inl l) ↦ absurd (y.0 l) | inr (inr u) ↦ inr u ], pick ks x.1 y.1)
