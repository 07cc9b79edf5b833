-- A base with renamed ids agrees with the base on all that the rules read.
use Rattle.std.proofs.Common.{◌≡◌, refl, sym, ap, ap₂, subst, ◌∙◌, ◌&&◌, ◌||◌, ℕ, Bool, not, List, [], ◌∷◌, map, Option, Some, None}
use Rattle.std.specs.Prelude.{is_some}
use Rattle.std.specs.List.{filter, list_any, list_all}
use Rattle.ec_volume.specs.Update.{operands, member}
use Rattle.ec_volume.specs.Volume.{Fits, HaveOneShape, after}
use Rattle.ec_volume.specs.declared.update.Update.{Update}
use Rattle.ec_volume.specs.declared.update.Update.TheVariants.{Make, Drop, Move, Put, Len, Mode, Stamp, Order, Shift, Owner}
use Rattle.ec_plain.specs.declared.call.Outcome.{Outcome}
use Rattle.ec_order.specs.Order.{before}
use Rattle.ec_history.specs.History.{Base, History, Op, updates, of_start, is_one_of, outcome, kept, without, touched}
use Rattle.ec_history.specs.Legal.{is_making, is_call_of_other, leaves, is_closed}
use Rattle.ec_history.specs.Lines.{durable, durable_ops}
use Rattle.ec_history.specs.Placing.{place}
use Rattle.ec_history.specs.declared.entry.Entry.{Entry}
use Rattle.ec_history.specs.declared.shown.Shown.{Shown}
use Rattle.ec_history.specs.OfLaws.Renaming.{IsRenaming}
use Rattle.ec_history.specs.OfLaws.Renamed.{AreRenamed, update_by, issued_update_by, outcome_by, op_by}
use Rattle.ec_history.proofs.OfLaws.ForRenamed.Images.{operands-by}
use Rattle.ec_history.proofs.OfLaws.ForRenamed.Shapes.{after-by, Fits-by, Fits-back, shape-by}
use Rattle.ec_history.proofs.OfLaws.ForRenamed.Needs.{share-lists, before-at}
use Rattle.ec_history.proofs.OfLaws.ForRenamed.Mapped.{filter-map, any-map, all-map}
use Rattle.ec_history.proofs.OfLaws.ForRenamed.RenamedKept.{updates-by, kept-at, outcome-now, touched-now}
use Rattle.ec_history.proofs.OfLaws.ForRenamed.RenamedOwing.{due-at}
use Rattle.ec_history.proofs.OfLaws.ForRenamed.Covering.{covers-by, covers-back}
use Rattle.ec_history.proofs.OfLaws.ForPlacing.BasesAlike.{OutcomesAgree, BasesAgree}

module _ (r : ℕ → ℕ) (ren : IsRenaming r) where
  some-at : (u : Option Update) → is_some (issued_update_by r u) ≡ is_some u
  some-at None = refl
  some-at (Some u) = refl

  make-at : (u : Option Update) → is_making (issued_update_by r u) ≡ is_making u
  make-at None = refl
  make-at (Some (Make d n o k)) = refl
  make-at (Some (Drop d n o k)) = refl
  make-at (Some (Move d m n o k v)) = refl
  make-at (Some (Put o at bytes inside)) = refl
  make-at (Some (Len o len)) = refl
  make-at (Some (Mode o m)) = refl
  make-at (Some (Stamp o s)) = refl
  make-at (Some (Order os)) = refl
  make-at (Some (Shift d m e n o k v up)) = refl
  make-at (Some (Owner o w)) = refl

  agree-at : (out now : Outcome) → now ≡ outcome_by r out → OutcomesAgree out now
  agree-at out now e =
      record {
        reply = ap (λ x. x.reply) e;
        issues = ap (λ x. is_some x.update) e ∙ some-at out.update;
        makes = ap (λ x. is_making x.update) e ∙ make-at out.update;
      }

  -- an operation's operands were touched where the renamed ones were
  meets-none : (ts : List ℕ) (ls : List Op)
      → list_all (λ k. not (list_any (λ o. member o (map r ts)) (operands k.update))) (map (op_by r) ls) ≡ list_all (λ k. not (list_any (λ o. member o ts) (operands k.update))) ls
  meets-none ts ls =
      all-map (op_by r) (λ k. not (list_any (λ o. member o (map r ts)) (operands k.update))) (λ k. not (list_any (λ o. member o ts) (operands k.update)))
      (λ k. ap not (ap (list_any (λ o. member o (map r ts))) (operands-by r ren k.update) ∙ share-lists r ren (operands k.update) ts)) ls

  closed-at : (inside : Op → Bool) → ((k : Op) → inside (op_by r k) ≡ inside k) → (ks : List Op) → is_closed inside (map (op_by r) ks) ≡ is_closed inside ks
  closed-at inside h [] = refl
  closed-at inside h (k ∷ ks) =
      λ x. (not (h k x) || all-map (op_by r) (λ j. inside j || not (before (update_by r k.update) j.update)) (λ j. inside j || not (before k.update j.update)) (λ j y. h j y || not (before-at r ren k.update j.update y)) ks x) && closed-at inside h ks x

  module _ (base other : Base) (same : AreRenamed r base other) where
    -- a part of what is kept, by a test that doesn't read the updates
    kept-part : (past : History) (inside : Op → Bool) → ((k : Op) → inside (op_by r k) ≡ inside k) → filter inside (kept other past) ≡ map (op_by r) (filter inside (kept base past))
    kept-part past inside h = ap (filter inside) (kept-at r ren base other same past) ∙ filter-map (op_by r) inside inside h (kept base past)

    keeps-at : (past : History) (c b : ℕ) (ns : List ℕ) → list_all (λ n. list_any (is_one_of c b (n ∷ [])) (kept other past)) ns ≡ list_all (λ n. list_any (is_one_of c b (n ∷ [])) (kept base past)) ns
    keeps-at past c b ns = λ x. list_all (λ n. one n x) ns
      where
        one : (n : ℕ) → list_any (is_one_of c b (n ∷ [])) (kept other past) ≡ list_any (is_one_of c b (n ∷ [])) (kept base past)
        one n = ap (list_any (is_one_of c b (n ∷ []))) (kept-at r ren base other same past) ∙ any-map (op_by r) (is_one_of c b (n ∷ [])) (is_one_of c b (n ∷ [])) (λ k. refl) (kept base past)

    leaves-at : (past : History) (e : ℕ × Entry) (c b : ℕ) (ns : List ℕ)
        → leaves other (kept other past) c (filter (is_one_of c b ns) (kept other past)) e ≡ leaves base (kept base past) c (filter (is_one_of c b ns) (kept base past)) e
    leaves-at past e c b ns =
        ap (λ x. not (is_call_of_other c e.1) || x)
        (ap₂ (λ ts ls. list_all (λ k. not (list_any (λ o. member o ts) (operands k.update))) ls) (touched-now r ren base other same past e) (kept-part past (is_one_of c b ns) (λ k. refl))
        ∙ meets-none (touched base (kept base past) e) (filter (is_one_of c b ns) (kept base past)))

    rest-at : (past : History) (c b : ℕ) (ns : List ℕ) → updates (without c b ns (kept other past)) ≡ map (update_by r) (updates (without c b ns (kept base past)))
    rest-at past c b ns = ap updates (kept-part past (λ k. not (is_one_of c b ns k)) (λ k. refl)) ∙ updates-by r (without c b ns (kept base past))

    durable-at : (ss : List Shown) → updates (durable_ops other ss) ≡ map (update_by r) (updates (durable_ops base ss))
    durable-at ss = ap updates (kept-part (place ss) (λ k. member k.number (durable k.clerk k.boot ss)) (λ k. refl)) ∙ updates-by r (durable_ops base ss)

    shape-at : (ss : List Shown) → HaveOneShape (after base.volume (updates (durable_ops base ss))) (after other.volume (updates (durable_ops other ss)))
    shape-at ss =
        subst (λ us. HaveOneShape (after base.volume (updates (durable_ops base ss))) (after other.volume us)) (sym (durable-at ss))
        (shape-by r ren (after base.volume (updates (durable_ops base ss))) (after other.volume (map (update_by r) (updates (durable_ops base ss)))) (after-by r ren base.volume other.volume same.volume (updates (durable_ops base ss))))

    pub renamed-agree : BasesAgree base other
    renamed-agree =
        record {
          due = λ past c b p cl. due-at r ren base other same c b past p cl;
          outcomes = λ past p cl. agree-at (outcome base (kept base past) p cl) (outcome other (kept other past) p cl) (outcome-now r ren base other same past p cl);
          covers = λ past e c b n. covers-by r ren base other same past e c b n;
          covers_back = λ past e c b n. covers-back r ren base other same past e c b n;
          keeps = keeps-at;
          leaves = leaves-at;
          closed = λ past c b ns. ap (is_closed (is_one_of c b ns)) (kept-part past (of_start c b) (λ k. refl)) ∙ closed-at (is_one_of c b ns) (λ k. refl) (filter (of_start c b) (kept base past));
          fits = λ past c b ns f. subst (Fits other.volume) (sym (rest-at past c b ns)) (Fits-by r ren base.volume other.volume same.volume (updates (without c b ns (kept base past))) f);
          fits_back = λ past c b ns f. Fits-back r ren base.volume other.volume same.volume (updates (without c b ns (kept base past))) (subst (Fits other.volume) (rest-at past c b ns) f);
          shape = shape-at;
        }
