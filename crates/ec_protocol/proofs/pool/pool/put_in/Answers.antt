use Rattle.std.proofs.Common.{[], ◌∷◌, ◌++◌, ap, ◌∙◌, nat_cmp}
use Rattle.std.specs.Map.{remove_entry}
use Rattle.std.specs.BTreeMap.{is_at}
use Rattle.ec_protocol.specs.declared.pool.links.Link.{Link}
use Rattle.ec_protocol.proofs.OfPool.Laws.{err_of, ok_of}
use Rattle.ec_protocol.proofs.OfPool.Lists.{insert_last, removed_last, put_last}
use Rattle.ec_protocol.proofs.pool.pool.put_in.Goals as goal

pub returns-then-is_err-clause-err : goal.returns-then-is_err-clause-err
returns-then-is_err-clause-err c =
    let es = c.args.kept.now.entries in (
      c.remove.ensures.entries
          ∙ ap (λ xs. remove_entry (is_at (nat_cmp c.args.number)) xs) (c.in_ok-insert.ensures.entries ∙ insert_last c.args.number c.args.sent es c.requires.kept)
          ∙ removed_last c.args.number c.args.sent es c.requires.kept,
      err_of c.insert-2.result c.is_err.result c.is_err.ensures.value c.if-is_err.true c.insert-2.ensures.err,
    )

pub returns-clause-kept : goal.returns-clause-kept
returns-clause-kept c = c.in_ok-insert.ensures.entries ∙ insert_last c.args.number c.args.sent c.args.kept.now.entries c.requires.kept

pub returns-clause-pending : goal.returns-clause-pending
returns-clause-pending c =
    ok_of c.insert-2.result c.is_err.result c.is_err.ensures.value c.if-is_err.false c.insert-2.ensures.ok
    ∙ put_last c.args.number c.link_of-link.result c.args.pending.now c.requires.pending
    ∙ ap (λ (l : Link). c.args.pending.now ++ (c.args.number, l) ∷ []) c.link_of-link.ensures
