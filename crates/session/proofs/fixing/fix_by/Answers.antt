use Rattle.std.proofs.Common.{◌≡◌, map, sym, ap, ◌∙◌, subst, refl}
use Rattle.file_map.specs.declared.fault.PutFault.{PutFault}
use Rattle.file_map.specs.FileMap.{over_limit, front, TellsOver}
use Rattle.file_map.specs.Sync.{with_files}
use Rattle.session.specs.Sessions.{text_of}
use Rattle.session.proofs.Fixes.{texts_put, limit_of}
use Rattle.session.proofs.fixing.fix_by.Goals as goal

pub returns-in-Ok-clause-put : goal.returns-in-Ok-clause-put
returns-in-Ok-clause-put c =
    c.in-Ok.ensures.put
    ∙ texts_put c.args.files.now c.args.files.now c.as_slice-2.result.now c.in_ok-fixed.fixed refl (c.as_slice-2.ensures ∙ c.in_ok-texts.ensures ∙ ap (map text_of) c.as_slice.ensures)

pub returns-in-Ok-clause-within : goal.returns-in-Ok-clause-within
returns-in-Ok-clause-within c =
    ap over_limit (sym (texts_put c.args.files.now c.args.files.now c.as_slice-2.result.now c.in_ok-fixed.fixed refl (c.as_slice-2.ensures ∙ c.in_ok-texts.ensures ∙ ap (map text_of) c.as_slice.ensures)))
    ∙ c.in-Ok.ensures.within

pub returns-clause-over : goal.returns-clause-over
returns-clause-over c kind n e =
    let T : PutFault → Type 0 = λ f. TellsOver (over_limit (with_files c.args.files.now (map front c.as_slice-2.result.now))) f in (
      c.in_ok-fixed.fixed,
      c.in_ok-fixed.ensures,
      ap over_limit (sym (texts_put c.args.files.now c.args.files.now c.as_slice-2.result.now c.in_ok-fixed.fixed refl (c.as_slice-2.ensures ∙ c.in_ok-texts.ensures ∙ ap (map text_of) c.as_slice.ensures)))
          ∙ (subst T c.in-Err-OverLimit.field-0-is c.in-Err-OverLimit.ensures.over ∙ ap limit_of e),
    )
