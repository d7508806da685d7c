use Rattle.std.proofs.Common.{◌≡◌, length}
use Rattle.std.specs.Prelude.{slice_index_or, codes, []}
use Rattle.job_words.proofs.SampleWords.{not_so, sample_asked, no_sample}
use Rattle.job_words.proofs.words.Words.sample.Goals as goal

pub returns-then-is_with_one : goal.returns-then-is_with_one
returns-then-is_with_one c = sample_asked c.args.self.now c.word.result.now c.size_of.result (c.is_with_one.ensures.0 c.if-is_with_one.true) c.word.ensures c.size_of.ensures

pub returns : goal.returns
returns c = no_sample c.args.self.now (not_so c.is_with_one.result ((length c.args.self.now ≡ 2) × (slice_index_or c.args.self.now 0 [] ≡ codes "sample")) c.is_with_one.ensures c.if-is_with_one.false)
