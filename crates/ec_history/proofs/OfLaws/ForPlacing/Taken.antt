-- What a history keeps, issued, owes and covers, with a late call before the loss of its start.
use Rattle.std.proofs.Common.{◌≡◌, sym, ap, subst, ◌∙◌, ℕ, true, false, not, ◌==◌, List, [], ◌∷◌, ◌++◌, Option, append-nil, append_assoc}
use Rattle.std.proofs.lemmas.Bool.{or_parts, and_from, cond-true}
use Rattle.std.specs.List.{filter, list_any}
use Rattle.ec_volume.specs.Update.{listed}
use Rattle.ec_plain.specs.declared.call.Call.{Call}
use Rattle.ec_history.specs.History.{Base, History, Throughout, same_start, is_one_of, kept, kept_next, issued, issued_by, issued_from, is_entry_of, owed, outcome, meets, pairs_of}
use Rattle.ec_history.specs.Legal.{IsLegal, IsCall}
use Rattle.ec_history.specs.Lines.{IsCovered}
use Rattle.ec_history.specs.declared.entry.Answer.{Answer}
use Rattle.ec_history.specs.declared.entry.Entry.{Entry}
use Rattle.ec_history.specs.declared.entry.Entry.TheVariants as entry
use Rattle.ec_history.specs.declared.shown.Shown.{Shown}
use Rattle.ec_history.proofs.OfLaws.ForPlacing.More.{kept-step, issued-append, issued-step, owed-step, owed-others}
use Rattle.ec_history.proofs.OfLaws.ForPlacing.Cuts.{throughout-append, throughout-front, throughout-back}
use Rattle.ec_history.proofs.OfLaws.ForPlacing.Numbers.{count}
use Rattle.ec_history.proofs.OfLaws.ForPlacing.LateLoss.{filter-new, late-new, old-kept}
use Rattle.ec_history.proofs.OfLaws.ForPlacing.Beside.{IsBeside, beside-next, covers-same}
use Rattle.ec_history.proofs.OfLaws.ForPlacing.Inserted.{kept-both, beside-first}
use Rattle.ec_base.proofs.Numbers.{same-self as same_number}

-- an entry behind two others, and what follows
pub past_last : (h : History) (x : ℕ × Entry) (g : History) → h ++ x ∷ g ≡ (h ++ x ∷ []) ++ g
past_last h x g = sym (append_assoc h (x ∷ []) g)

beside-all : (base : Base) (c b : ℕ) (past later g : History) → IsBeside base c b past later → IsBeside base c b (past ++ g) (later ++ g)
beside-all base c b past later [] i = subst (λ x. IsBeside base c b x (later ++ [])) (sym (append-nil past)) (subst (λ x. IsBeside base c b past x) (sym (append-nil later)) i)
beside-all base c b past later (e ∷ g) i =
    subst (λ x. IsBeside base c b x (later ++ e ∷ g)) (sym (past_last past e g))
    (subst (λ x. IsBeside base c b ((past ++ e ∷ []) ++ g) x) (sym (past_last later e g)) (beside-all base c b (past ++ e ∷ []) (later ++ e ∷ []) g (beside-next base c b past later e i)))

module _ (base : Base) (most c b p l g q : ℕ) (cl : Call) (a : Answer) (op : Option ℕ) (ns : List ℕ) (h h' : History) (legal : IsLegal base most h) (call : IsCall base most h c b p cl a op) where
  abbrev e : ℕ × Entry
  e = (p, entry.Call c b l g cl a op)

  abbrev old_loss : ℕ × Entry
  old_loss = (q, entry.Loss c b ns)

  abbrev new_loss : ℕ × Entry
  new_loss = (q, entry.Loss c b (ns ++ listed op))

  beside : IsBeside base c b (h ++ old_loss ∷ h') ((h ++ e ∷ []) ++ new_loss ∷ h')
  beside =
      subst (λ x. IsBeside base c b x ((h ++ e ∷ []) ++ new_loss ∷ h')) (sym (past_last h old_loss h'))
      (subst (λ x. IsBeside base c b ((h ++ old_loss ∷ []) ++ h') x) (sym (past_last (h ++ e ∷ []) new_loss h'))
      (beside-all base c b (h ++ old_loss ∷ []) ((h ++ e ∷ []) ++ new_loss ∷ []) h' (beside-first base most c b p l g cl a op q ns h legal call)))

  pub taken-keeps : kept base (h ++ e ∷ [] ++ new_loss ∷ h') ≡ kept base (h ++ old_loss ∷ h')
  taken-keeps = beside.keeps

  pub taken-owes_others : (d f : ℕ) → same_start c b d f ≡ false → owed base (h ++ e ∷ [] ++ new_loss ∷ h') d f ≡ owed base (h ++ old_loss ∷ h') d f
  taken-owes_others d f o = beside.owes d f o

  pub taken-issues : issued base (h ++ e ∷ [] ++ new_loss ∷ h') ≡ issued base h ++ issued_by base (kept base h) e ++ issued_from base (kept base (h ++ old_loss ∷ [])) h'
  taken-issues =
      issued-append base (h ++ e ∷ []) (new_loss ∷ h')
      ∙ ap (λ x. x ++ issued_from base (kept_next base (kept base (h ++ e ∷ [])) new_loss) h') (issued-step base h e)
      ∙ ap (λ ks. (issued base h ++ issued_by base (kept base h) e) ++ issued_from base ks h') (sym (kept-step base (h ++ e ∷ []) new_loss) ∙ kept-both base most c b p l g cl a op q ns h legal call)

  pub taken-owes : list_any (λ x. is_entry_of c b x.1) h' ≡ false
      → owed base (h ++ e ∷ [] ++ new_loss ∷ h') c b
      ≡ filter (λ k. not (meets (outcome base (kept base h) p cl) cl k)) (owed base h c b) ++ pairs_of (filter (is_one_of c b ns) (kept base h) ++ issued_by base (kept base h) e)
  taken-owes n =
      ap (λ x. owed base x c b) (past_last (h ++ e ∷ []) new_loss h')
      ∙ owed-others base ((h ++ e ∷ []) ++ new_loss ∷ []) h' c b n
      ∙ owed-step base (h ++ e ∷ []) new_loss c b
      ∙ cond-true (same_start c b c b) _ (owed base (h ++ e ∷ []) c b) own
      ∙ ap (λ ks. owed base (h ++ e ∷ []) c b ++ pairs_of (filter (is_one_of c b (ns ++ listed op)) ks)) (kept-step base h e)
      ∙ ap (λ ks. owed base (h ++ e ∷ []) c b ++ pairs_of ks)
      (filter-new c b (count c b h) (issued_by base (kept base h) e) ns (listed op) (late-new base most c b p l g cl a op ns h legal call) (kept base h) (old-kept base most c b p l g cl a op ns h legal call))
      ∙ ap (λ qs. qs ++ pairs_of (filter (is_one_of c b ns) (kept base h) ++ issued_by base (kept base h) e)) (owed-step base h e c b ∙ cond-true (same_start c b c b) _ (owed base h c b) own)
    where
      own : same_start c b c b ≡ true
      own = and_from (c == c) (b == b) (same_number c) (same_number b)

  module _ (ss : List Shown) where
    covered-same : (past later : History) (x : ℕ × Entry) → IsBeside base c b past later → is_entry_of c b x.1 ≡ false → IsCovered base ss past x → IsCovered base ss later x
    covered-same past later (r, entry.Call d f k s dl y o) i n v = λ m w. v m (covers-same base c b past later i (r, entry.Call d f k s dl y o) d f m n n w)
    covered-same past later (r, entry.Loss d f ms) i n v = tt

    covered-behind : (past later g' : History) → IsBeside base c b past later → list_any (λ x. is_entry_of c b x.1) g' ≡ false → Throughout (IsCovered base ss) past g' → Throughout (IsCovered base ss) later g'
    covered-behind past later [] i n t = tt
    covered-behind past later (x ∷ g') i n t =
        let k = or_parts (is_entry_of c b x.1) (list_any (λ y. is_entry_of c b y.1) g') n in
        (covered-same past later x i k.0 t.0, covered-behind (past ++ x ∷ []) (later ++ x ∷ []) g' (beside-next base c b past later x i) k.1 t.1)

    pub taken-covered : list_any (λ x. is_entry_of c b x.1) h' ≡ false → Throughout (IsCovered base ss) [] (h ++ old_loss ∷ h') → IsCovered base ss h e → Throughout (IsCovered base ss) [] (h ++ e ∷ [] ++ new_loss ∷ h')
    taken-covered n t v =
        let behind = covered-behind (h ++ old_loss ∷ []) ((h ++ e ∷ []) ++ new_loss ∷ []) h' (beside-first base most c b p l g cl a op q ns h legal call) n (throughout-back (IsCovered base ss) [] h (old_loss ∷ h') t).1 in
        throughout-append (IsCovered base ss) [] (h ++ e ∷ []) (new_loss ∷ h')
        (throughout-append (IsCovered base ss) [] h (e ∷ []) (throughout-front (IsCovered base ss) [] h (old_loss ∷ h') t) (v, tt)) (tt, behind)
