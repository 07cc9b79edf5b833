-- Lost operations are walked.
use Rattle.std.proofs.Common.{◌≡◌, ◌∙◌, sym, ap, refl, ℕ, append-nil, append_assoc, List, [], ◌∷◌, ◌++◌, cond, Bool, true, false}
use Rattle.ec_volume.specs.Update.{member, operands}
use Rattle.ec_volume.specs.declared.update.Update.{Update}
use Rattle.ec_order.specs.Order.{Issued}
use Rattle.ec_protocol.specs.Clerk as clerk
use Rattle.ec_doing.specs.OfHoldings.Owing.{lost_of}

owed_by : (ns : List ℕ) (op : ℕ × Update) (ops : Issued) → clerk.with_operands (lost_of ns (op ∷ ops)) ≡ clerk.with_operands (lost_of ns (op ∷ [])) ++ clerk.with_operands (lost_of ns ops)
owed_by ns op ops = go (member op.0 ns)
  where
    go : (b : Bool) → clerk.with_operands (cond b (op ∷ lost_of ns ops) (lost_of ns ops)) ≡ clerk.with_operands (cond b (op ∷ []) []) ++ clerk.with_operands (lost_of ns ops)
    go true = refl
    go false = refl

pub owed_more : (ns : List ℕ) (ops rest : Issued) (op : ℕ × Update) (before after all : List (ℕ × List ℕ)) → ops ≡ op ∷ rest → after ≡ before ++ clerk.with_operands (lost_of ns (op ∷ [])) → before ++ clerk.with_operands (lost_of ns ops) ≡ all → after ++ clerk.with_operands (lost_of ns rest) ≡ all
owed_more ns ops rest op before after all next more h =
    let owed = clerk.with_operands (lost_of ns rest) in
    ap (λ x. x ++ owed) more
    ∙ append_assoc before (clerk.with_operands (lost_of ns (op ∷ []))) owed
    ∙ ap (λ x. before ++ x) (sym (owed_by ns op rest))
    ∙ sym (ap (λ x. before ++ clerk.with_operands (lost_of ns x)) next)
    ∙ h

pub one_owed : (ns : List ℕ) (op : ℕ) (u : Update) (objs : List ℕ) (before after : List (ℕ × List ℕ)) → member op ns ≡ true → objs ≡ operands u → after ≡ before ++ (op, objs) ∷ [] → after ≡ before ++ clerk.with_operands (lost_of ns ((op, u) ∷ []))
one_owed ns op u objs before after lost at_objs more =
    more
    ∙ ap (λ xs. before ++ (op, xs) ∷ []) at_objs
    ∙ sym (ap (λ b. before ++ clerk.with_operands (cond b ((op, u) ∷ []) [])) lost)

pub none_owed : (ns : List ℕ) (op : ℕ × Update) (before : List (ℕ × List ℕ)) → member op.0 ns ≡ false → before ≡ before ++ clerk.with_operands (lost_of ns (op ∷ []))
none_owed ns op before kept = sym (append-nil before) ∙ sym (ap (λ b. before ++ clerk.with_operands (cond b (op ∷ []) [])) kept)
