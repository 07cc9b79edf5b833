use Rattle.std.proofs.Common.{sym, ap, ◌∙◌}
use Rattle.std.specs.List.{find}
use Rattle.std.proofs.lemmas.Result.{IfOk-weaker}
use Rattle.ec_order.specs.OfNumbers.Starts.{indexed}
use Rattle.ec_judge.specs.Carried.{is_start, owed_of}
use Rattle.ec_judge.proofs.AllStarts.{found-at}
use Rattle.ec_judge.proofs.Places.{index-found, index-none, find-none}
use Rattle.ec_judge.proofs.starts.Starts.owed.Goals as goal

pub returns-in-Some : goal.returns-in-Some
returns-in-Some c =
    let ss = c.self.inside.items.items in
    let q = is_start c.args.clerk c.args.boot in
    let found = index-found (indexed c.self.inside.index) ss c.self.invariant c.args.clerk c.args.boot c.in-Some.at (sym c.find_start.ensures ∙ c.in-Some.is) in
    IfOk-weaker c.all.result _ _
    (λ pairs h. h ∙ sym (ap (λ l. owed_of (find q l)) (sym c.self.view_is) ∙ ap owed_of (found-at q ss c.in-Some.at c.index.result.now found.0 found.1 c.index.ensures)))
    c.all.ensures

pub returns-in-None : goal.returns-in-None
returns-in-None c =
    let ss = c.self.inside.items.items in
    let q = is_start c.args.clerk c.args.boot in
    c.new.ensures.items
    ∙ sym (ap (λ l. owed_of (find q l)) (sym c.self.view_is) ∙ ap owed_of (find-none q ss (index-none (indexed c.self.inside.index) ss c.self.invariant c.args.clerk c.args.boot (sym c.find_start.ensures ∙ c.in-None.is))))
