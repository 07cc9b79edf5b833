use Rattle.std.proofs.Common.{◌++◌, ◌∷◌, [], refl, sym, ap, subst, ◌∙◌, ℕ, List, length}
use Rattle.std.specs.List.{find, position_or_len}
use Rattle.ec_order.specs.OfNumbers.Starts.{indexed}
use Rattle.ec_pending.specs.declared.issue.Issue.{Issue}
use Rattle.ec_judge.specs.declared.carried.Start.{Start}
use Rattle.ec_judge.specs.Carried.{is_start, count_of, owed_of, pending_of}
use Rattle.ec_judge.specs.Index.{IsStartIndex}
use Rattle.ec_judge.proofs.AllStarts.{found-more}
use Rattle.ec_judge.proofs.Places.{index-push, place-new}
use Rattle.ec_judge.proofs.starts.Starts.index_of.Goals as goal

pub invariant_of-self-2 : goal.invariant_of-self-2
invariant_of-self-2 c =
    let ss = c.self.inside.items.items in
    let s : Start = record { clerk = c.args.clerk; boot = c.args.boot; owed = c.new.result; pending = c.in_ok-new.field-0 } in
    subst (IsStartIndex (indexed c.note_start.new.index)) (sym (c.push.ensures ∙ ap (λ l. l ++ s ∷ []) c.reserve.ensures.items))
    (index-push (indexed c.self.inside.index) (indexed c.note_start.new.index) ss c.self.invariant c.args.clerk c.args.boot c.len-at.result s (sym c.find_start.ensures ∙ c.in_default.is) (c.len-at.ensures ∙ c.reserve.new.self.ok.0 ∙ ap length c.reserve.ensures.items) refl refl c.in_ok-note_start.ensures.ok)

pub returns-clause-found : goal.returns-clause-found
returns-clause-found c =
    let ss = c.self.inside.items.items in
    let s : Start = record { clerk = c.args.clerk; boot = c.args.boot; owed = c.new.result; pending = c.in_ok-new.field-0 } in
    sym (
    ap (position_or_len (is_start c.args.clerk c.args.boot)) (c.push.ensures ∙ ap (λ l. l ++ s ∷ []) c.reserve.ensures.items)
    ∙ place-new (indexed c.self.inside.index) (indexed c.note_start.new.index) ss c.self.invariant c.args.clerk c.args.boot c.len-at.result s (sym c.find_start.ensures ∙ c.in_default.is) (c.len-at.ensures ∙ c.reserve.new.self.ok.0 ∙ ap length c.reserve.ensures.items) refl refl
    )

pub returns-clause-count : goal.returns-clause-count
returns-clause-count c = λ d f.
    let s : Start = record { clerk = c.args.clerk; boot = c.args.boot; owed = c.new.result; pending = c.in_ok-new.field-0 } in
    ap (λ l. count_of (find (is_start d f) l)) (c.push.ensures ∙ ap (λ l. l ++ s ∷ []) (c.reserve.ensures.items ∙ c.self.view_is))
    ∙ found-more count_of (is_start d f) c.args.self.now s (ap (λ (m : ℕ × List Issue). m.0) c.in_ok-new.ensures)

pub returns-clause-owed : goal.returns-clause-owed
returns-clause-owed c = λ d f.
    let s : Start = record { clerk = c.args.clerk; boot = c.args.boot; owed = c.new.result; pending = c.in_ok-new.field-0 } in
    ap (λ l. owed_of (find (is_start d f) l)) (c.push.ensures ∙ ap (λ l. l ++ s ∷ []) (c.reserve.ensures.items ∙ c.self.view_is))
    ∙ found-more owed_of (is_start d f) c.args.self.now s c.new.ensures

pub returns-clause-pending : goal.returns-clause-pending
returns-clause-pending c = λ d f.
    let s : Start = record { clerk = c.args.clerk; boot = c.args.boot; owed = c.new.result; pending = c.in_ok-new.field-0 } in
    ap (λ l. pending_of (find (is_start d f) l)) (c.push.ensures ∙ ap (λ l. l ++ s ∷ []) (c.reserve.ensures.items ∙ c.self.view_is))
    ∙ found-more pending_of (is_start d f) c.args.self.now s (ap (λ (m : ℕ × List Issue). m.1) c.in_ok-new.ensures)
