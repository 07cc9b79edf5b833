use Rattle.std.proofs.Common.{◌≡◌, ◌≤◌, ◌++◌, ◌∙◌, List, ℕ, length, ap, arith, sym, subst}
use Rattle.ec_stands.specs.OfTable.Codes.{described}
use Rattle.ec_stands.specs.OfTable.LengthLaws.{max_table_code, table_len}
use Rattle.ec_stands.proofs.OfTable.Written.{table_written, table_fits, body_short}
use Rattle.ec_stands.proofs.table.writing.put_table.Goals as goal

pub overflow_cast-len : goal.overflow_cast-len
overflow_cast-len c =
    let most = c.args.state.now.max_objects in
    let table = described c.args.state.now c.args.places.now in
    let short = body_short most table c.new-body.result.items c.put_state.new.out.items c.new-body.ensures.items c.in_ok-put_state.ensures.written.0 c.in_ok-put_state.ensures.sixteen c.requires.few in
    omega (arith, short, c.len.ensures)

pub returns-clause-spelled : goal.returns-clause-spelled
returns-clause-spelled c =
    let most = c.args.state.now.max_objects in
    let table = described c.args.state.now c.args.places.now in
    let added : c.extend_from_slice.new.self.items ≡ c.put_head.new.out.items ++ c.put_state.new.out.items =
    c.in_ok-extend_from_slice.ensures.items ∙ ap (λ (xs : List ℕ). c.put_head.new.out.items ++ xs) c.deref.ensures.value in
    let counts : c.len.result ≡ length c.put_state.new.out.items = omega (arith, c.len.ensures, c.put_state.new.out.ok.0) in
    table_written most table c.new-body.result.items c.put_state.new.out.items c.new-bytes.result.items c.put_head.new.out.items c.extend_from_slice.new.self.items c.len.result
    c.new-body.ensures.items c.in_ok-put_state.ensures.written.0 c.new-bytes.ensures.items counts c.in_ok-put_head.ensures added

pub returns-clause-fits : goal.returns-clause-fits
returns-clause-fits c =
    table_fits c.args.state.now.max_objects (described c.args.state.now c.args.places.now) (omega (arith, c.in_ok-put_state.ensures.sixteen)) c.requires.few c.in_ok-put_state.ensures.written.1

pub returns-clause-short : goal.returns-clause-short
returns-clause-short c =
    let most = c.args.state.now.max_objects in
    let table = described c.args.state.now c.args.places.now in
    let added : c.extend_from_slice.new.self.items ≡ c.put_head.new.out.items ++ c.put_state.new.out.items =
    c.in_ok-extend_from_slice.ensures.items ∙ ap (λ (xs : List ℕ). c.put_head.new.out.items ++ xs) c.deref.ensures.value in
    let counts : c.len.result ≡ length c.put_state.new.out.items = omega (arith, c.len.ensures, c.put_state.new.out.ok.0) in
    let spelled = table_written most table c.new-body.result.items c.put_state.new.out.items c.new-bytes.result.items c.put_head.new.out.items c.extend_from_slice.new.self.items c.len.result
    c.new-body.ensures.items c.in_ok-put_state.ensures.written.0 c.new-bytes.ensures.items counts c.in_ok-put_head.ensures added in
    subst (λ (xs : List ℕ). length xs ≤ max_table_code) (sym spelled) (table_len most table (omega (arith, c.in_ok-put_state.ensures.sixteen)) c.requires.few)
