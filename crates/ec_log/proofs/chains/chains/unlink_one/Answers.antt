use Rattle.std.proofs.Common.{◌≡◌, ◌∙◌, sym, arith, refl, List, [], ◌∷◌, ℕ, length, true}
use Rattle.std.specs.Prelude.{◌==◌}
use Rattle.std.proofs.lemmas.Bool.{eqb-true}
use Rattle.ec_log.proofs.OfChains.Linked.{put-there, put-twice, stays-at, removed-at}
use Rattle.ec_log.proofs.chains.chains.unlink_one.Goals as goal

none : (xs : List ℕ) → (length xs == 0) ≡ true → xs ≡ []
none [] e = refl
none (x ∷ xs) e = absurd (let z = eqb-true (length (x ∷ xs)) 0 e in omega (arith, z))

pub put_back-requires : goal.put_back-requires
put_back-requires c = put-there c.args.obj c.new.result c.args.chains.now c.replace.new.self c.in-Some.ensures.some

pub returns-then-is_empty : goal.returns-then-is_empty
returns-then-is_empty c o n u h t =
    stays-at c.args.obj o n c.in-Some.chain c.leave.new.self c.args.chains.now c.remove.new.self (sym c.replace.ensures.value ∙ c.in-Some.is)
    (λ p. removed-at c.args.obj p c.new.result c.leave.new.self c.args.chains.now c.replace.new.self c.remove.new.self c.in-Some.ensures.some c.remove.ensures.others (none c.leave.new.self (sym c.is_empty.ensures ∙ c.if-is_empty.true))) (c.leave.ensures n u h) t

pub returns-else-is_empty : goal.returns-else-is_empty
returns-else-is_empty c o n u h t =
    stays-at c.args.obj o n c.in-Some.chain c.leave.new.self c.args.chains.now c.put_back.new.chains (sym c.replace.ensures.value ∙ c.in-Some.is)
    (λ p. put-twice c.args.obj p c.new.result c.leave.new.self c.args.chains.now c.replace.new.self c.put_back.new.chains c.in-Some.ensures.some c.put_back.ensures) (c.leave.ensures n u h) t
