-- Bases that agree on all that the rules read: what is legal over one is legal over the other.
use Rattle.std.proofs.Common.{◌≡◌, sym, subst, ◌∙◌, ℕ, T, List, [], ◌∷◌, ◌++◌, Option}
use Rattle.std.specs.Prelude.{is_some}
use Rattle.std.specs.List.{filter, list_any, list_all}
use Rattle.ec_volume.specs.Volume.{Images, Fits, HaveOneShape, after}
use Rattle.ec_plain.specs.declared.call.Call.{Call}
use Rattle.ec_plain.specs.declared.call.Outcome.{Outcome}
use Rattle.ec_history.specs.History.{Base, History, updates, of_start, is_one_of, outcome, kept, without, Throughout, Each, Covers, due}
use Rattle.ec_history.specs.Legal.{is_making, IsFull, IsReply, IsReported, leaves, is_closed, IsLawful, IsLegalNext, IsLegal}
use Rattle.ec_history.specs.Lines.{IsCovered, AreCovered, durable_ops, IsStored}
use Rattle.ec_history.specs.Placing.{place}
use Rattle.ec_history.specs.declared.entry.Answer.{Answer}
use Rattle.ec_history.specs.declared.entry.Answer.TheVariants as answer
use Rattle.ec_history.specs.declared.entry.Entry.{Entry}
use Rattle.ec_history.specs.declared.entry.Entry.TheVariants as entry
use Rattle.ec_history.specs.declared.shown.Shown.{Shown}

-- Rules that give others, throughout a history and for each member of a list.

pub throughout-map : (P Q : History → ℕ × Entry → Type 0) → ((h : History) (e : ℕ × Entry) → P h e → Q h e) → (past h : History) → Throughout P past h → Throughout Q past h
throughout-map P Q f past [] t = tt
throughout-map P Q f past (e ∷ h) t = (f past e t.0, throughout-map P Q f (past ++ e ∷ []) h t.1)

pub each-map : {A : Type 0} (P Q : A → Type 0) → ((x : A) → P x → Q x) → (xs : List A) → Each P xs → Each Q xs
each-map P Q f [] h = tt
each-map P Q f (x ∷ xs) h = (f x h.0, each-map P Q f xs h.1)

-- Outcomes that agree on the reply, on whether they have an update and on whether it makes an object.
pub record OutcomesAgree (out now : Outcome) : Type 0 where
  pub reply : now.reply ≡ out.reply
  pub issues : is_some now.update ≡ is_some out.update
  pub makes : is_making now.update ≡ is_making out.update

full-as : (most : ℕ) (out now : Outcome) (a : Answer) → OutcomesAgree out now → IsFull most out a → IsFull most now a
full-as most out now (answer.NoRoom l m) like h = (subst T (sym like.makes) h.0, h.1)
full-as most out now (answer.Reply q) like h = h
full-as most out now (answer.Lost ns) like h = h

reply-as : (out now : Outcome) (a : Answer) (op : Option ℕ) → OutcomesAgree out now → IsReply out a op → IsReply now a op
reply-as out now (answer.Reply q) op like h = (h.0 ∙ sym like.reply, h.1 ∙ sym like.issues)
reply-as out now (answer.NoRoom l m) op like h = h
reply-as out now (answer.Lost ns) op like h = h

pub record BasesAgree (base other : Base) : Type 0 where
  pub due : (past : History) (c b p : ℕ) (cl : Call) → due other past c b p cl ≡ due base past c b p cl
  pub outcomes : (past : History) (p : ℕ) (cl : Call) → OutcomesAgree (outcome base (kept base past) p cl) (outcome other (kept other past) p cl)
  pub covers : (past : History) (e : ℕ × Entry) (c b n : ℕ) → Covers base past e c b n → Covers other past e c b n
  pub covers_back : (past : History) (e : ℕ × Entry) (c b n : ℕ) → Covers other past e c b n → Covers base past e c b n
  pub keeps : (past : History) (c b : ℕ) (ns : List ℕ) → list_all (λ n. list_any (is_one_of c b (n ∷ [])) (kept other past)) ns ≡ list_all (λ n. list_any (is_one_of c b (n ∷ [])) (kept base past)) ns
  pub leaves : (past : History) (e : ℕ × Entry) (c b : ℕ) (ns : List ℕ)
      → leaves other (kept other past) c (filter (is_one_of c b ns) (kept other past)) e ≡ leaves base (kept base past) c (filter (is_one_of c b ns) (kept base past)) e
  pub closed : (past : History) (c b : ℕ) (ns : List ℕ) → is_closed (is_one_of c b ns) (filter (of_start c b) (kept other past)) ≡ is_closed (is_one_of c b ns) (filter (of_start c b) (kept base past))
  pub fits : (past : History) (c b : ℕ) (ns : List ℕ) → Fits base.volume (updates (without c b ns (kept base past))) → Fits other.volume (updates (without c b ns (kept other past)))
  pub fits_back : (past : History) (c b : ℕ) (ns : List ℕ) → Fits other.volume (updates (without c b ns (kept other past))) → Fits base.volume (updates (without c b ns (kept base past)))
  pub shape : (ss : List Shown) → HaveOneShape (after base.volume (updates (durable_ops base ss))) (after other.volume (updates (durable_ops other ss)))

pub turned : (base other : Base) → BasesAgree base other → BasesAgree other base
turned base other like =
    record {
      due = λ past c b p cl. sym (like.due past c b p cl);
      outcomes = λ past p cl. record {
        reply = sym (like.outcomes past p cl).reply;
        issues = sym (like.outcomes past p cl).issues;
        makes = sym (like.outcomes past p cl).makes;
      };
      covers = like.covers_back;
      covers_back = like.covers;
      keeps = λ past c b ns. sym (like.keeps past c b ns);
      leaves = λ past e c b ns. sym (like.leaves past e c b ns);
      closed = λ past c b ns. sym (like.closed past c b ns);
      fits = like.fits_back;
      fits_back = like.fits;
      shape = λ ss path. sym (like.shape ss path);
    }

module _ (base other : Base) (like : BasesAgree base other) where
  pub lawful-as : (past : History) (c b : ℕ) (ns : List ℕ) → IsLawful base past c b ns → IsLawful other past c b ns
  lawful-as past c b ns l =
      record {
        kept_so_far = subst T (sym (like.keeps past c b ns)) l.kept_so_far;
        uncovered = throughout-map (λ h e. Each (λ n. ¬ (Covers base h e c b n)) ns) (λ h e. Each (λ n. ¬ (Covers other h e c b n)) ns)
            (λ h e t. each-map (λ n. ¬ (Covers base h e c b n)) (λ n. ¬ (Covers other h e c b n)) (λ n k j. k (like.covers_back h e c b n j)) ns t) [] past l.uncovered;
        untouched = throughout-map (λ h e. T (leaves base (kept base h) c (filter (is_one_of c b ns) (kept base h)) e)) (λ h e. T (leaves other (kept other h) c (filter (is_one_of c b ns) (kept other h)) e))
            (λ h e t. subst T (sym (like.leaves h e c b ns)) t) [] past l.untouched;
        closed = subst T (sym (like.closed past c b ns)) l.closed;
        fits = like.fits past c b ns l.fits;
      }

  legal-next-as : (most : ℕ) (past : History) (e : ℕ × Entry) → IsLegalNext base most past e → IsLegalNext other most past e
  legal-next-as most past (p, entry.Call c b l g cl a op) h =
      record {
        number = h.number;
        report = subst (λ ns. IsReported ns a) (sym (like.due past c b p cl)) h.report;
        room = full-as most (outcome base (kept base past) p cl) (outcome other (kept other past) p cl) a (like.outcomes past p cl) h.room;
        reply = reply-as (outcome base (kept base past) p cl) (outcome other (kept other past) p cl) a op (like.outcomes past p cl) h.reply;
      }
  legal-next-as most past (p, entry.Loss c b ns) h = lawful-as past c b ns h

  pub legal-as : (most : ℕ) (h : History) → IsLegal base most h → IsLegal other most h
  legal-as most h = throughout-map (IsLegalNext base most) (IsLegalNext other most) (legal-next-as most) [] h

  covered-next-as : (ss : List Shown) (past : History) (e : ℕ × Entry) → IsCovered base ss past e → IsCovered other ss past e
  covered-next-as ss past (p, entry.Call c b l g cl a op) h = λ n k. h n (like.covers_back past (p, entry.Call c b l g cl a op) c b n k)
  covered-next-as ss past (p, entry.Loss c b ns) h = tt

  pub covered-as : (ss : List Shown) → AreCovered base ss → AreCovered other ss
  covered-as ss = throughout-map (IsCovered base ss) (IsCovered other ss) (covered-next-as ss) [] (place ss)

  pub stored-as : (ss : List Shown) (v : Images) → IsStored base ss v → IsStored other ss v
  stored-as ss v h path = h path ∙ like.shape ss path
