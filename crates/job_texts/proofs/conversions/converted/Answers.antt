use Rattle.std.proofs.Common.{◌≡◌, sym, ◌∙◌, true, false}
use Rattle.cdd_reading.specs.Files.{HasLinearityAfter}
use Rattle.job_texts.proofs.ConversionLaws.{file_refused, linearity_refused, all_passed, conversion_refused, other_file_of}
use Rattle.job_texts.proofs.conversions.converted.Goals as goal

pub returns-in-Err : goal.returns-in-Err
returns-in-Err g c = rw c.from.ensures (file_refused c.args.want c.args.file.now c.in-Err.cause c.in-Err.ensures.read)

pub returns-then-linearity_after_end : goal.returns-then-linearity_after_end
returns-then-linearity_after_end g c = linearity_refused c.args.want c.args.file.now c.in-Ok.ensures.read.1 (c.linearity_after_end.ensures.0 c.if-linearity_after_end.true)

pub returns-in-Ok-other_file : goal.returns-in-Ok-other_file
returns-in-Ok-other_file g c =
    let after : ¬ (HasLinearityAfter c.args.file.now) = λ h. (let never : true ≡ false = sym (c.linearity_after_end.ensures.1 h) ∙ c.if-linearity_after_end.false in cc) in (
      all_passed c.args.want c.args.file.now c.in-Ok.ensures.read.1 after,
      other_file_of c.kept_is_pair.ensures c.args.want c.args.file.now c.in-Ok-other_file.text c.in-Ok.list c.in-Ok.ensures.read.0 c.in-Ok-other_file.ensures.file,
    )

pub returns : goal.returns
returns g c =
    let after : ¬ (HasLinearityAfter c.args.file.now) = λ h. (let never : true ≡ false = sym (c.linearity_after_end.ensures.1 h) ∙ c.if-linearity_after_end.false in cc) in
    let none = all_passed c.args.want c.args.file.now c.in-Ok.ensures.read.1 after in
    rw c.from-in-Err-other_file.ensures (conversion_refused c.args.want c.args.file.now c.in-Ok.list c.in-Err-other_file.cause none c.in-Ok.ensures.read.0 c.in-Err-other_file.ensures.overflow)
