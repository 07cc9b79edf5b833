-- A history with one more call before the last loss of its start.
use Rattle.std.proofs.Common.{◌≡◌, sym, subst, ◌∙◌, ℕ, false, List, [], ◌∷◌, ◌++◌, Option, append_assoc, append-nil}
use Rattle.std.specs.List.{list_any}
use Rattle.std.proofs.lemmas.Bool.{or_parts}
use Rattle.ec_volume.specs.Update.{listed}
use Rattle.ec_plain.specs.declared.call.Call.{Call}
use Rattle.ec_history.specs.History.{Base, History, Throughout, is_entry_of}
use Rattle.ec_history.specs.Legal.{IsCall, IsLegal}
use Rattle.ec_history.specs.declared.entry.Answer.{Answer}
use Rattle.ec_history.specs.declared.entry.Entry.{Entry}
use Rattle.ec_history.specs.declared.entry.Entry.TheVariants as entry
use Rattle.ec_history.proofs.OfLaws.ForPlacing.Beside.{IsBeside, beside-next}
use Rattle.ec_history.proofs.OfLaws.ForPlacing.Cuts.{throughout-append, throughout-back, throughout-front}
use Rattle.ec_history.proofs.OfLaws.ForPlacing.Inserted.{beside-first}

beside-behind : (base : Base) (c b : ℕ) (h past later : History) → IsBeside base c b past later → IsBeside base c b (past ++ h) (later ++ h)
beside-behind base c b [] past later i = subst (λ z. IsBeside base c b z (later ++ [])) (sym (append-nil past)) (subst (IsBeside base c b past) (sym (append-nil later)) i)
beside-behind base c b (e ∷ h) past later i = subst (λ z. IsBeside base c b z (later ++ e ∷ h)) (append_assoc past (e ∷ []) h)
    (subst (IsBeside base c b ((past ++ e ∷ []) ++ h)) (append_assoc later (e ∷ []) h) (beside-behind base c b h (past ++ e ∷ []) (later ++ e ∷ []) (beside-next base c b past later e i)))

module _ (base : Base) (most c b p l g : ℕ) (cl : Call) (a : Answer) (op : Option ℕ) (q : ℕ) (ns : List ℕ) (w y : History) (legal : IsLegal base most w) (call : IsCall base most w c b p cl a op) where
  abbrev pub late : ℕ × Entry
  late = (p, entry.Call c b l g cl a op)

  abbrev pub old : ℕ × Entry
  old = (q, entry.Loss c b ns)

  abbrev pub new : ℕ × Entry
  new = (q, entry.Loss c b (ns ++ listed op))

  first : IsBeside base c b (w ++ old ∷ []) ((w ++ late ∷ []) ++ new ∷ [])
  first = beside-first base most c b p l g cl a op q ns w legal call

  pub beside-to : (h : History) → IsBeside base c b (w ++ old ∷ h) (w ++ late ∷ new ∷ h)
  beside-to h = subst (λ z. IsBeside base c b z (w ++ late ∷ new ∷ h)) (append_assoc w (old ∷ []) h)
      (subst (IsBeside base c b ((w ++ old ∷ []) ++ h)) (append_assoc (w ++ late ∷ []) (new ∷ []) h ∙ append_assoc w (late ∷ []) (new ∷ h)) (beside-behind base c b h (w ++ old ∷ []) ((w ++ late ∷ []) ++ new ∷ []) first))

  -- what holds of each entry with those before it
  module _ (P Q : History → ℕ × Entry → Type 0) (front : (past : History) (e : ℕ × Entry) → P past e → Q past e)
      (behind : (past later : History) (e : ℕ × Entry) → IsBeside base c b past later → is_entry_of c b e.1 ≡ false → P past e → Q later e) where
    before : (past h : History) → Throughout P past h → Throughout Q past h
    before past [] t = tt
    before past (e ∷ h) t = (front past e t.0, before (past ++ e ∷ []) h t.1)

    after : (past later h : History) → IsBeside base c b past later → list_any (λ e. is_entry_of c b e.1) h ≡ false → Throughout P past h → Throughout Q later h
    after past later [] i n t = tt
    after past later (e ∷ h) i n t =
        let k = or_parts (is_entry_of c b e.1) (list_any (λ e. is_entry_of c b e.1) h) n in
        (behind past later e i k.0 t.0, after (past ++ e ∷ []) (later ++ e ∷ []) h (beside-next base c b past later e i) k.1 t.1)

    pub throughout-late : Q w late → Q (w ++ late ∷ []) new → list_any (λ e. is_entry_of c b e.1) y ≡ false → Throughout P [] (w ++ old ∷ y) → Throughout Q [] (w ++ late ∷ new ∷ y)
    throughout-late u v n t = throughout-append Q [] w (late ∷ new ∷ y) (before [] w (throughout-front P [] w (old ∷ y) t))
        (u, (v, after (w ++ old ∷ []) ((w ++ late ∷ []) ++ new ∷ []) y first n (throughout-back P [] w (old ∷ y) t).1))
