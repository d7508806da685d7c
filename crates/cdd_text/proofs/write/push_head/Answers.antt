use Rattle.std.proofs.Common.{◌≡◌, ◌+◌, ◌++◌, ◌∷◌, [], length, ◌∙◌, ap, rules}
use Rattle.std.specs.Prelude.{decimal, codes}
use Rattle.cdd_reading.specs.Bodies.{type_word}
use Rattle.cdd_text.specs.Written.{linearity_text}
use Rattle.cdd_text.proofs.WrittenLaws.{head_written}
use Rattle.cdd_text.proofs.write.push_head.Goals as goal

pub returns : goal.returns
returns c =
    let kind : c.push.new.self ≡ c.args.text.now ++ c.args.kind.now = c.in_ok-push.ensures in
    let kind_end : c.push_byte.new.self ≡ c.push.new.self ++ 10 ∷ [] = c.in_ok-push_byte.ensures in
    let linear : c.push_linearity.new.text ≡ c.push_byte.new.self ++ linearity_text c.args.marks.now = c.in_ok-push_linearity.ensures in
    let begin : c.push-2.new.self ≡ c.push_linearity.new.text ++ codes "begin\n" = c.in_ok-push-2.ensures in
    let rows : c.push_unsigned.new.self ≡ c.push-2.new.self ++ decimal (length c.args.marks.now) = search rules in
    let gap : c.push_byte-2.new.self ≡ c.push_unsigned.new.self ++ 32 ∷ [] = c.in_ok-push_byte-2.ensures in
    let width : c.push_unsigned-2.new.self ≡ c.push_byte-2.new.self ++ decimal (c.args.dim + 1) = search rules in
    let second_gap : c.push_byte-3.new.self ≡ c.push_unsigned-2.new.self ++ 32 ∷ [] = c.in_ok-push_byte-3.ensures in
    let type : c.push-3.new.self ≡ c.push_byte-3.new.self ++ type_word c.args.number_type = search rules in
    let end : c.push_byte-4.new.self ≡ c.push-3.new.self ++ 10 ∷ [] = c.in_ok-push_byte-4.ensures in
    (end ∙ ap (λ x. x ++ 10 ∷ []) (type ∙ ap (λ x. x ++ type_word c.args.number_type) (second_gap ∙ ap (λ x. x ++ 32 ∷ []) (width ∙ ap (λ x. x ++ decimal (c.args.dim + 1)) (gap ∙ ap (λ x. x ++ 32 ∷ []) (rows ∙ ap (λ x. x ++ decimal (length c.args.marks.now)) (begin ∙ ap (λ x. x ++ codes "begin\n") (linear ∙ ap (λ x. x ++ linearity_text c.args.marks.now) (kind_end ∙ ap (λ x. x ++ 10 ∷ []) kind)))))))))
    ∙ head_written c.args.text.now c.args.kind.now (linearity_text c.args.marks.now) (decimal (length c.args.marks.now)) (decimal (c.args.dim + 1)) (type_word c.args.number_type)
