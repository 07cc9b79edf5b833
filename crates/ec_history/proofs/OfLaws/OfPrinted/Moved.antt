-- A call whose answer no volume changes may stand behind entries of other starts, and behind an empty loss of its own.
use Rattle.std.proofs.Common.{◌≡◌, refl, sym, ap, subst, ◌∙◌, ◌+◌, ℕ, T, Bool, true, false, not, ◌==◌, ◌&&◌, ◌||◌, cond, List, [], ◌∷◌, ◌++◌, length, Option, Some, None, append-nil, append_assoc}
use Rattle.std.proofs.lemmas.Bool.{and_parts, eqb-true}
use Rattle.std.specs.Prelude.{nat_le}
use Rattle.std.specs.List.{filter, list_all, list_any}
use Rattle.ec_volume.specs.Update.{member}
use Rattle.ec_volume.specs.Volume.{Fits, after}
use Rattle.ec_plain.specs.Walk.{walk}
use Rattle.ec_plain.specs.declared.call.Call.{Call}
use Rattle.ec_plain.specs.declared.call.Call.TheVariants as call
use Rattle.ec_plain.specs.declared.call.Reply.TheVariants as reply
use Rattle.ec_order.specs.Order.{InClosure}
use Rattle.ec_history.specs.History.{Base, Each, History, Throughout, updates, numbers, same_start, of_start, is_one_of, outcome, kept, kept_next, issued, issued_by, of_issue, asks, is_lost, Covers, owed, owed_next, meets, distinct_numbers, due, without}
use Rattle.ec_history.specs.Legal.{IsCall, IsFull, IsLegalNext, IsNext, IsReply, IsReported, is_closed, is_op_of, leaves}
use Rattle.ec_history.specs.declared.entry.Answer.{Answer}
use Rattle.ec_history.specs.declared.entry.Answer.TheVariants as answer
use Rattle.ec_history.specs.declared.entry.Entry.{Entry}
use Rattle.ec_history.specs.declared.entry.Entry.TheVariants as entry
use Rattle.ec_history.proofs.OfLaws.ForPlacing.Cuts.{throughout-append, throughout-back, throughout-front}
use Rattle.ec_history.proofs.OfLaws.ForPlacing.More.{kept-step, issued-step, owed-step, is_lost-append, count-step}
use Rattle.ec_history.proofs.OfLaws.ForPlacing.Numbers.{count}
use Rattle.ec_history.proofs.OfLaws.ForPlacing.BasesAlike.{each-map}
use Rattle.ec_history.proofs.OfLaws.ForPlacing.Beside.{asks_at}

abbrev pub E : Type 0
E = ℕ × Entry

pub cond-false : {A : Type 0} (z : Bool) (x y : A) → z ≡ false → cond z x y ≡ y
cond-false {A} z x y q = ap (λ w. cond w x y) q

pub cond-true : {A : Type 0} (z : Bool) (x y : A) → z ≡ true → cond z x y ≡ x
cond-true {A} z x y q = ap (λ w. cond w x y) q

-- two names of one start
pub one-start : (c b d f : ℕ) → same_start d f c b ≡ true → (d ≡ c) × (f ≡ b)
one-start c b d f q = let p = and_parts (d == c) (f == b) q in (eqb-true d c p.0, eqb-true f b p.1)

module _ (base : Base) where
  abbrev pub Uncovered : ℕ → ℕ → List ℕ → History → E → Type 0
  Uncovered d f ms h e = Each (λ m. ¬ (Covers base h e d f m)) ms

  abbrev pub Untouched : ℕ → ℕ → List ℕ → History → E → Type 0
  Untouched d f ms h e = T (leaves base (kept base h) d (filter (is_one_of d f ms) (kept base h)) e)

  -- What covers and touches are read from is the same.
  pub record IsLevel (past later : History) : Type 0 where
    pub keeps : kept base later ≡ kept base past
    pub issues : issued base later ≡ issued base past
    pub loses : (d f n : ℕ) → is_lost d f n later ≡ is_lost d f n past

  asks-level : (past later : History) → IsLevel past later → (e : E) → asks base later e ≡ asks base past e
  asks-level past later h (p, entry.Call d f l g (call.Fsync path) (answer.Reply reply.Ok) op) =
      ap (λ ks. asks_at d f g (walk (after base.volume (updates ks)) path).to (issued base later)) h.keeps ∙ ap (asks_at d f g (walk (after base.volume (updates (kept base past))) path).to) h.issues
  asks-level past later h (p, entry.Call d f l g call.Sync (answer.Reply reply.Ok) op) = ap (λ is. numbers (filter (λ k. of_start d f k && nat_le k.place g) is)) h.issues
  asks-level past later h e = refl

  covers-level : (past later : History) → IsLevel past later → (e : E) (d f n : ℕ) → Covers base later e d f n → Covers base past e d f n
  covers-level past later h e d f n v = record {
    own = v.own;
    closed_in =
        subst (λ ns. InClosure (of_issue d f (issued base past)) (λ m. member m ns) n) (asks-level past later h e)
        (subst (λ is. InClosure (of_issue d f is) (λ m. member m (asks base later e)) n) h.issues v.closed_in);
    not_lost = subst (λ x. T (not x)) (h.loses d f n) v.not_lost;
  }

  pub uncovered-level : (past later : History) → IsLevel past later → (e : E) (d f : ℕ) (ms : List ℕ) → Uncovered d f ms past e → Uncovered d f ms later e
  uncovered-level past later h e d f ms u = each-map (λ m. ¬ (Covers base past e d f m)) (λ m. ¬ (Covers base later e d f m)) (λ m k v. k (covers-level past later h e d f m v)) ms u

  pub untouched-level : (past later : History) → kept base later ≡ kept base past → (e : E) (d f : ℕ) (ms : List ℕ) → Untouched d f ms past e → Untouched d f ms later e
  untouched-level past later q e d f ms t = subst (λ ks. T (leaves base ks d (filter (is_one_of d f ms) ks) e)) (sym q) t

  -- So are debts and numbers.
  pub record IsAlike (past later : History) : Type 0 where
    pub level : IsLevel past later
    pub owes : (d f : ℕ) → owed base later d f ≡ owed base past d f
    pub counts : (d f : ℕ) → count d f later ≡ count d f past

  level-next : (past later : History) (e : E) → IsLevel past later → IsLevel (past ++ e ∷ []) (later ++ e ∷ [])
  level-next past later e h = record {
    keeps = kept-step base later e ∙ ap (λ ks. kept_next base ks e) h.keeps ∙ sym (kept-step base past e);
    issues = issued-step base later e ∙ ap (λ is. is ++ issued_by base (kept base later) e) h.issues ∙ ap (λ ks. issued base past ++ issued_by base ks e) h.keeps ∙ sym (issued-step base past e);
    loses = λ d f n. is_lost-append d f n later (e ∷ []) ∙ ap (λ x. x || is_lost d f n (e ∷ [])) (h.loses d f n) ∙ sym (is_lost-append d f n past (e ∷ []));
  }

  alike-next : (past later : History) (e : E) → IsAlike past later → IsAlike (past ++ e ∷ []) (later ++ e ∷ [])
  alike-next past later e h = record {
    level = level-next past later e h.level;
    owes = λ d f.
        owed-step base later e d f
        ∙ ap (λ ks. owed_next base d f ks (owed base later d f) e) h.level.keeps
        ∙ ap (λ qs. owed_next base d f (kept base past) qs e) (h.owes d f)
        ∙ sym (owed-step base past e d f);
    counts = λ d f. count-step d f later e ∙ ap (λ n. n + length (cond (is_op_of d f e) (e ∷ []) [])) (h.counts d f) ∙ sym (count-step d f past e);
  }

  call-alike : (past later : History) → IsAlike past later → (most d f p : ℕ) (cl : Call) (a : Answer) (op : Option ℕ) → IsCall base most past d f p cl a op → IsCall base most later d f p cl a op
  call-alike past later h most d f p cl a op t = record {
    number = next op t.number;
    report = subst (λ ns. IsReported ns a) (sym same) t.report;
    room = subst (λ ks. IsFull most (outcome base ks p cl) a) (sym h.level.keeps) t.room;
    reply = subst (λ ks. IsReply (outcome base ks p cl) a op) (sym h.level.keeps) t.reply;
  }
    where
      same : due base later d f p cl ≡ due base past d f p cl
      same =
          ap (λ ks. distinct_numbers (filter (meets (outcome base ks p cl) cl) (owed base later d f))) h.level.keeps
          ∙ ap (λ qs. distinct_numbers (filter (meets (outcome base (kept base past) p cl) cl) qs)) (h.owes d f)

      next : (x : Option ℕ) → IsNext d f past x → IsNext d f later x
      next None e = tt
      next (Some n) e = e ∙ ap (λ m. m + 1) (sym (h.counts d f))

  -- One history has moved to another: what is legal behind the one is so behind the other.
  pub record IsMoved (past later : History) : Type 0 where
    pub alike : IsAlike past later
    pub uncovered : (d f : ℕ) (ms : List ℕ) → Throughout (Uncovered d f ms) [] past → Throughout (Uncovered d f ms) [] later
    pub untouched : (d f : ℕ) (ms : List ℕ) → Throughout (Untouched d f ms) [] past → Throughout (Untouched d f ms) [] later

  pub moved-none : (h : History) → IsMoved h h
  moved-none h = record {
    alike = record { level = record { keeps = refl; issues = refl; loses = λ d f n. refl }; owes = λ d f. refl; counts = λ d f. refl };
    uncovered = λ d f ms t. t;
    untouched = λ d f ms t. t;
  }

  pub moved-on : (h k l : History) → IsMoved h k → IsMoved k l → IsMoved h l
  moved-on h k l x y = record {
    alike = record {
      level = record { keeps = y.alike.level.keeps ∙ x.alike.level.keeps; issues = y.alike.level.issues ∙ x.alike.level.issues; loses = λ d f n. y.alike.level.loses d f n ∙ x.alike.level.loses d f n };
      owes = λ d f. y.alike.owes d f ∙ x.alike.owes d f;
      counts = λ d f. y.alike.counts d f ∙ x.alike.counts d f;
    };
    uncovered = λ d f ms t. y.uncovered d f ms (x.uncovered d f ms t);
    untouched = λ d f ms t. y.untouched d f ms (x.untouched d f ms t);
  }

  pub moved-next : (past later : History) (e : E) → IsMoved past later → IsMoved (past ++ e ∷ []) (later ++ e ∷ [])
  moved-next past later e m = record {
    alike = alike-next past later e m.alike;
    uncovered = λ d f ms t.
        throughout-append (Uncovered d f ms) [] later (e ∷ []) (m.uncovered d f ms (throughout-front (Uncovered d f ms) [] past (e ∷ []) t))
        (uncovered-level past later m.alike.level e d f ms (throughout-back (Uncovered d f ms) [] past (e ∷ []) t).0, tt);
    untouched = λ d f ms t.
        throughout-append (Untouched d f ms) [] later (e ∷ []) (m.untouched d f ms (throughout-front (Untouched d f ms) [] past (e ∷ []) t))
        (untouched-level past later m.alike.level.keeps e d f ms (throughout-back (Untouched d f ms) [] past (e ∷ []) t).0, tt);
  }

  pub moved-all : (past later es : History) → IsMoved past later → IsMoved (past ++ es) (later ++ es)
  moved-all past later [] m = subst (λ x. IsMoved x (later ++ [])) (sym (append-nil past)) (subst (IsMoved past) (sym (append-nil later)) m)
  moved-all past later (e ∷ es) m =
      subst (λ x. IsMoved x (later ++ e ∷ es)) (append_assoc past (e ∷ []) es)
      (subst (IsMoved ((past ++ e ∷ []) ++ es)) (append_assoc later (e ∷ []) es) (moved-all (past ++ e ∷ []) (later ++ e ∷ []) es (moved-next past later e m)))

  pub legal-moved : (most : ℕ) (past later : History) → IsMoved past later → (e : E) → IsLegalNext base most past e → IsLegalNext base most later e
  legal-moved most past later m (p, entry.Call d f l g cl a op) t = call-alike past later m.alike most d f p cl a op t
  legal-moved most past later m (p, entry.Loss d f ms) t = let k = m.alike.level.keeps in record {
    kept_so_far = subst (λ ks. T (list_all (λ n. list_any (is_one_of d f (n ∷ [])) ks) ms)) (sym k) t.kept_so_far;
    uncovered = m.uncovered d f ms t.uncovered;
    untouched = m.untouched d f ms t.untouched;
    closed = subst (λ ks. T (is_closed (is_one_of d f ms) (filter (of_start d f) ks))) (sym k) t.closed;
    fits = subst (λ ks. Fits base.volume (updates (without d f ms ks))) (sym k) t.fits;
  }
