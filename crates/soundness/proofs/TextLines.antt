-- A line that spells a command by the tables spells it by the cases.
use Rattle.std.proofs.Common.{◌≡◌, ℕ, List, [], ◌∷◌, ◌++◌, Bool, true, zero, suc, map, refl, ap, sym, ◌∙◌, subst, arith, inl, inr, append_assoc}
use Rattle.std.specs.Prelude.{Contains, codes}
use Rattle.std.specs.List.{list_all}
use Rattle.std.specs.Str.{bytes_eq}
use Rattle.std.specs.Bool.{Decides}
use Rattle.std.proofs.lemmas.Slice.Eq.{bytes_eq-Decides}
use Rattle.grammar.specs.Form.{Form, Matches, Times}
use Rattle.grammar.specs.Grammar.{◌·◌, ◌∣◌, ◌⋯◌, symbol, blanks, perhaps, comment, nat, var, vars, rel, expr, frac, con, cons, point, gens, name as name_form}
use Rattle.line_forms.specs.CommandWords.{CommandWord, command_words, HasForm}
use Rattle.line_forms.specs.Fields.{words_by, fields_from, fields_by, fields_of}
use Rattle.line_forms.specs.Layouts.{Layout, plain, with_part, with_relation, words_form, layout_form, top, stored_list, format, prefix as prefix_form}
use Rattle.line_forms.specs.Words.{is_word}
use Rattle.line_forms.proofs.Listed.{passes}
use Rattle.line_forms.specs.declared.form.LineForm.{LineForm}
use Rattle.line_forms.specs.declared.form.LineForm.TheVariants as form
use Rattle.line_forms.specs.declared.form.OneName.TheVariants as one_name
use Rattle.line_forms.specs.declared.form.NameAndPart.TheVariants as name_and_part
use Rattle.line_forms.specs.declared.form.TwoNames.TheVariants as two_names
use Rattle.line_forms.specs.declared.form.ThreeNames.TheVariants as three_names
use Rattle.line_forms.specs.declared.form.SpaceAlone.TheVariants as space_alone
use Rattle.line_forms.specs.declared.form.SpaceAndPart.TheVariants as space_and_part
use Rattle.line_forms.specs.declared.form.TwoNamesNumber.TheVariants as two_names_number
use Rattle.line_forms.specs.declared.form.TwoNamesMap.TheVariants as two_names_map
use Rattle.line_forms.specs.declared.form.NameFormat.TheVariants as name_format
use Rattle.line_forms.specs.declared.form.NameNumberName.TheVariants as name_number_name
use Rattle.line_forms.specs.declared.form.NameNumberPrefix.TheVariants as name_number_prefix
use Rattle.script_text.specs.Commands.{number_of, relation_of, command_of}
use Rattle.script_text.specs.Line as readers
use Rattle.script_text.specs.Variables.{variable_of, variables_of, further_variables_by, VariablesAreListed}
use Rattle.script_text.specs.declared.command.Command.{Command}
use Rattle.plain_text.specs.Digits.{number}
use Rattle.soundness.specs.TextsSystems as systems
use Rattle.soundness.specs.TextsSystems.{IsOneVariable, AreListed}
use Rattle.soundness.specs.TextsLines.{Word, Count, Variable, kept, IsWord, AreWords, Tail, Blanks, Behind, Variables, IsTail, IsComment, IsSpelled, signs, spelling, Spells}
use Rattle.soundness.specs.TextsLines as lines
use Rattle.soundness.proofs.TextTokens.{no_blanks, symbol_is, token, blanks_are, gap_is, alone_tokens}
use Rattle.soundness.proofs.TextNumbers.{nat_is, var_is, name_is}
use Rattle.soundness.proofs.TextValues.{Is}
use Rattle.soundness.proofs.TextLists.{AreRelated, HasRelated, HaveRelated, further_of, listed_law}

-- ---- words
-- each form's texts are the words that the readers make of them
abbrev AreRead : List Form → List (List ℕ → Word) → Type 0
AreRead [] [] = Unit {0}
AreRead [] (x ∷ xs) = ⊥
AreRead (f ∷ fs) [] = ⊥
AreRead (f ∷ fs) (x ∷ xs) = ((w : List ℕ) → Matches f w → IsWord (x w) w) × AreRead fs xs

-- the words that the readers make of texts
abbrev made : List (List ℕ → Word) → List (List ℕ) → List Word
made [] ws = []
made (x ∷ xs) [] = []
made (x ∷ xs) (w ∷ ws) = x w ∷ made xs ws

words_law : (fs : List Form) (xs : List (List ℕ → Word)) → AreRead fs xs → (w : List ℕ) (m : Matches (words_form fs) w) → AreWords (made xs (words_by fs w m)) w
words_law [] [] reads w m = m
words_law [] (x ∷ xs) reads w m = absurd reads
words_law (f ∷ fs) [] reads w m = absurd reads
words_law (f ∷ fs) (x ∷ xs) reads w (g, rest, e, between, (u, v, e2, is, others)) =
    let blank = gap_is g between in
    (g, u, v, e ∙ (ap (λ (t : List ℕ). g ++ t) e2 ∙ sym (append_assoc g u v)), blank.0, blank.1, reads.0 u is, words_law fs xs reads.1 v others)

name_word : (w : List ℕ) → Matches name_form w → IsWord (lines.name w) w
name_word w m = (refl, name_is 31 w m)

prefix_word : (w : List ℕ) → Matches prefix_form w → IsWord (lines.prefix w) w
prefix_word w m = (refl, name_is 29 w m)

count_word : (w : List ℕ) → Matches nat w → IsWord (Count (number_of w)) w
count_word w m = (number w, nat_is w m, refl)

variable_word : (w : List ℕ) → Matches var w → IsWord (Variable (variable_of w)) w
variable_word w m = let v = var_is w m in (v.variable, v.is, v.number_kept)

top_word : (w : List ℕ) → Matches top w → IsWord (lines.topology (is_word w (codes "nnc"))) w
top_word w (inl e) = subst (λ (t : List ℕ). IsWord (lines.topology (is_word t (codes "nnc"))) t) (sym e) refl
top_word w (inr e) = subst (λ (t : List ℕ). IsWord (lines.topology (is_word t (codes "nnc"))) t) (sym e) refl

side_word : (w : List ℕ) → Matches stored_list w → IsWord (lines.system (is_word w (codes "gens"))) w
side_word w (inl e) = subst (λ (t : List ℕ). IsWord (lines.system (is_word t (codes "gens"))) t) (sym e) refl
side_word w (inr e) = subst (λ (t : List ℕ). IsWord (lines.system (is_word t (codes "gens"))) t) (sym e) refl

file_word : (w : List ℕ) → Matches format w → IsWord (lines.file (is_word w (codes "ext"))) w
file_word w (inl e) = subst (λ (t : List ℕ). IsWord (lines.file (is_word t (codes "ext"))) t) (sym e) refl
file_word w (inr e) = subst (λ (t : List ℕ). IsWord (lines.file (is_word t (codes "ext"))) t) (sym e) refl

-- the readers
abbrev counted : List ℕ → Word
counted w = Count (number_of w)

abbrev of_variable : List ℕ → Word
of_variable w = Variable (variable_of w)

abbrev of_top : List ℕ → Word
of_top w = lines.topology (is_word w (codes "nnc"))

abbrev of_side : List ℕ → Word
of_side w = lines.system (is_word w (codes "gens"))

abbrev of_file : List ℕ → Word
of_file w = lines.file (is_word w (codes "ext"))

-- ---- tails
comment_is : (w : List ℕ) → Matches (perhaps comment) w → IsComment w
comment_is w (inl e) = subst IsComment (sym e) tt
comment_is w (inr (u, v, e, mark, more)) = subst IsComment (sym (e ∙ ap (λ (t : List ℕ). t ++ v) (symbol_is 35 u mark))) refl

-- a part behind one of the signs
part_tail : (f : Form) (signs_of : List (List ℕ)) (t b x sign y c z text d : List ℕ) → t ≡ b ++ x → Matches blanks b → x ≡ sign ++ y → Contains signs_of sign → y ≡ c ++ z → Matches blanks c → z ≡ text ++ d → Matches blanks d → IsTail (Behind signs_of text) t
part_tail f signs_of t b x sign y c z text d e before e2 is e3 behind e4 end = (
  b,
  sign,
  c,
  d,
  e ∙ (ap (λ (u : List ℕ). b ++ u) (e2 ∙ ap (λ (u : List ℕ). sign ++ u) (e3 ∙ ap (λ (u : List ℕ). c ++ u) e4))
      ∙ (sym (append_assoc b sign (c ++ (text ++ d))) ∙ (sym (append_assoc (b ++ sign) c (text ++ d)) ∙ sym (append_assoc ((b ++ sign) ++ c) text d)))),
  is,
  blanks_are b before,
  blanks_are c behind,
  blanks_are d end,
)

colon_in : (sign : List ℕ) → Matches (symbol 58) sign → Contains (codes ":" ∷ []) sign
colon_in sign m = (0, omega arith, sym (symbol_is 58 sign m))

-- a sign of a map's line
sign_in : (sign : List ℕ) → Matches (symbol 58 ∣ rel) sign → Contains (signs (relation_of sign)) sign
sign_in sign (inl m) = subst (λ (s : List ℕ). Contains (signs (relation_of s)) s) (sym (symbol_is 58 sign m)) (0, omega arith, refl)
sign_in sign (inr (inl m)) = subst (λ (s : List ℕ). Contains (signs (relation_of s)) s) (sym (symbol_is 61 sign m)) (1, omega arith, refl)
sign_in sign (inr (inr (inl e))) = subst (λ (s : List ℕ). Contains (signs (relation_of s)) s) (sym e) (0, omega arith, refl)
sign_in sign (inr (inr (inr (inl e)))) = subst (λ (s : List ℕ). Contains (signs (relation_of s)) s) (sym e) (0, omega arith, refl)
sign_in sign (inr (inr (inr (inr (inl m))))) = subst (λ (s : List ℕ). Contains (signs (relation_of s)) s) (sym (symbol_is 62 sign m)) (0, omega arith, refl)
sign_in sign (inr (inr (inr (inr (inr m))))) = subst (λ (s : List ℕ). Contains (signs (relation_of s)) s) (sym (symbol_is 60 sign m)) (0, omega arith, refl)

-- ---- variables
-- a variable's text as it is
abbrev itself : (w : List ℕ) → Matches var w → List ℕ
itself w m = w

abbrev IsKept : ℕ → List ℕ → Type 0
IsKept j w = variable_of w ≡ kept j

variable_element : (w : List ℕ) (m : Matches var w) (b : List ℕ) → w ≡ b → HasRelated IsOneVariable IsKept w b
variable_element w m b e =
    let v = var_is w m in
    record {
      element = v.variable;
      is = record { pieces = w ∷ []; split = token w; means = systems.variable w v.variable v.is };
      related = subst (λ (t : List ℕ). IsKept v.variable t) e v.number_kept;
    }

same_texts : (ws : List (List ℕ)) → AreRelated (λ (a b : List ℕ). a ≡ b) ws ws
same_texts [] = tt
same_texts (w ∷ ws) = (refl, same_texts ws)

kept_texts : (js : List ℕ) (ws : List (List ℕ)) → AreRelated IsKept js ws → map variable_of ws ≡ map kept js
kept_texts [] [] h = refl
kept_texts [] (w ∷ ws) h = absurd h
kept_texts (j ∷ js) [] h = absurd h
kept_texts (j ∷ js) (w ∷ ws) h = ap (λ (k : ℕ). k ∷ map variable_of ws) h.0 ∙ ap (λ (ks : List ℕ). kept j ∷ ks) (kept_texts js ws h.1)

further_kept : (n : ℕ) (w : List ℕ) (m : Times (Matches (blanks · (symbol 44 ⋯ var))) n w) → further_variables_by n w m ≡ map variable_of (further_of var itself n w m)
further_kept zero w none = refl
further_kept (suc n) w (u, v, e, (b, x, f, between, (comma, y, g, is_comma, (c, variable, h, behind, is_variable))), others) = ap (λ (js : List ℕ). variable_of variable ∷ js) (further_kept n v others)

-- the variables of a text, with their numbers as they are kept
record HasVariables (w : List ℕ) : Type 0 where
  variables : List ℕ
  is : Is (AreListed IsOneVariable) w variables
  are_kept : variables_of w ≡ map kept variables

vars_law : VariablesAreListed → (w : List ℕ) (m : Matches vars w) → HasVariables w
vars_law variables_listed w (first, v, e, is_first, (n, others)) =
    let texts : List (List ℕ) = first ∷ further_of var itself n v others in
    let h : HaveRelated (AreListed IsOneVariable) IsKept w texts = listed_law var itself IsOneVariable IsKept (λ (a b : List ℕ). a ≡ b) variable_element n w first v is_first others e texts (same_texts texts) in
    record {
      variables = h.elements;
      is = h.are;
      are_kept = variables_listed w (first, v, e, is_first, (n, others)) ∙ (ap (λ (js : List ℕ). variable_of first ∷ js) (further_kept n v others) ∙ kept_texts h.elements texts h.related);
    }

-- ---- lines
abbrev LineOf : Layout → List ℕ → Type 0
LineOf layout line = Matches (layout_form layout) line

-- the words of a line, and what stands behind them
abbrev words_in : (layout : Layout) (line : List ℕ) → LineOf layout line → List (List ℕ)
words_in layout line (b, x, e, before, (command, rest, e2, is, (ws, y, e3, words, (t, c, e4, tail, commented)))) = words_by layout.words ws words

-- the line, with what is said of its tail
line_law : (layout : Layout) (xs : List (List ℕ → Word)) → AreRead layout.words xs → (k : List ℕ) → layout.command ≡ k → (tail_is : Tail) (line : List ℕ) (m : LineOf layout line) → IsTail tail_is (m.4.4.4.0) → IsSpelled (record { first = k; words = made xs (words_in layout line m); tail = tail_is }) line
line_law layout xs reads k same tail_is line (b, x, e, before, (command, rest, e2, is, (ws, y, e3, words, (t, c, e4, tail, commented)))) told = record {
  before = b;
  words_text = ws;
  tail_text = t;
  comment = c;
  same = e ∙ (ap (λ (u : List ℕ). b ++ u) (e2 ∙ (ap (λ (u : List ℕ). u ++ rest) (is ∙ same) ∙ ap (λ (u : List ℕ). k ++ u) (e3 ∙ ap (λ (u : List ℕ). ws ++ u) e4)))
      ∙ (sym (append_assoc b k (ws ++ (t ++ c))) ∙ (sym (append_assoc (b ++ k) ws (t ++ c)) ∙ sym (append_assoc ((b ++ k) ++ ws) t c))));
  blank = blanks_are b before;
  are_words = words_law layout.words xs reads ws words;
  is_tail = told;
  is_comment = comment_is c commented;
}

-- a command of words alone
plain_line : (command : List ℕ) (fs : List Form) (xs : List (List ℕ → Word)) → AreRead fs xs → (k : List ℕ) → command ≡ k → (line : List ℕ) (m : LineOf (plain command fs) line) → IsSpelled (record { first = k; words = made xs (words_in (plain command fs) line m); tail = Blanks }) line
plain_line command fs xs reads k same line m = line_law (plain command fs) xs reads k same Blanks line m (blanks_are m.4.4.4.0 m.4.4.4.3)

-- a command with a part behind a colon
part_line : (command : List ℕ) (fs : List Form) (f : Form) (xs : List (List ℕ → Word)) → AreRead fs xs → (k : List ℕ) → command ≡ k → (line : List ℕ) (m : LineOf (with_part command fs f) line) → IsSpelled (record { first = k; words = made xs (words_in (with_part command fs f) line m); tail = Behind (codes ":" ∷ []) (fields_by (with_part command fs f) line m).part }) line
part_line command fs f xs reads k same line (b, x, e, before, (command_text, rest, e2, is, (ws, y, e3, words, (t, c, e4, (b2, x2, f1, before2, (colon, y2, f2, is_colon, (c2, z2, f3, behind2, (text, d2, f4, is_text, end2)))), commented)))) =
    line_law (with_part command fs f) xs reads k same (Behind (codes ":" ∷ []) text) line (b, x, e, before, (command_text, rest, e2, is, (ws, y, e3, words, (t, c, e4, (b2, x2, f1, before2, (colon, y2, f2, is_colon, (c2, z2, f3, behind2, (text, d2, f4, is_text, end2)))), commented))))
    (part_tail f (codes ":" ∷ []) t b2 x2 colon y2 c2 z2 text d2 f1 before2 f2 (colon_in colon is_colon) f3 behind2 f4 end2)

-- a command with a part behind a colon or a relation
related_line : (command : List ℕ) (fs : List Form) (f : Form) (xs : List (List ℕ → Word)) → AreRead fs xs → (k : List ℕ) → command ≡ k → (line : List ℕ) (m : LineOf (with_relation command fs f) line) → IsSpelled (record { first = k; words = made xs (words_in (with_relation command fs f) line m); tail = Behind (signs (relation_of (fields_by (with_relation command fs f) line m).sign)) (fields_by (with_relation command fs f) line m).part }) line
related_line command fs f xs reads k same line (b, x, e, before, (command_text, rest, e2, is, (ws, y, e3, words, (t, c, e4, (b2, x2, f1, before2, (sign, y2, f2, is_sign, (c2, z2, f3, behind2, (text, d2, f4, is_text, end2)))), commented)))) =
    line_law (with_relation command fs f) xs reads k same (Behind (signs (relation_of sign)) text) line (b, x, e, before, (command_text, rest, e2, is, (ws, y, e3, words, (t, c, e4, (b2, x2, f1, before2, (sign, y2, f2, is_sign, (c2, z2, f3, behind2, (text, d2, f4, is_text, end2)))), commented))))
    (part_tail f (signs (relation_of sign)) t b2 x2 sign y2 c2 z2 text d2 f1 before2 f2 (sign_in sign is_sign) f3 behind2 f4 end2)

-- a command with variables behind a colon
variables_line : VariablesAreListed → (command : List ℕ) (fs : List Form) (xs : List (List ℕ → Word)) → AreRead fs xs → (k : List ℕ) → command ≡ k → (line : List ℕ) (m : LineOf (with_part command fs vars) line) → IsSpelled (record { first = k; words = made xs (words_in (with_part command fs vars) line m); tail = Variables (variables_of (fields_by (with_part command fs vars) line m).part) }) line
variables_line variables_listed command fs xs reads k same line (b, x, e, before, (command_text, rest, e2, is, (ws, y, e3, words, (t, c, e4, (b2, x2, f1, before2, (colon, y2, f2, is_colon, (c2, z2, f3, behind2, (text, d2, f4, is_text, end2)))), commented)))) =
    let h = vars_law variables_listed text is_text in
    line_law (with_part command fs vars) xs reads k same (Variables (variables_of text)) line (b, x, e, before, (command_text, rest, e2, is, (ws, y, e3, words, (t, c, e4, (b2, x2, f1, before2, (colon, y2, f2, is_colon, (c2, z2, f3, behind2, (text, d2, f4, is_text, end2)))), commented)))) (
      b2,
      y2,
      h.variables,
      f1 ∙ (ap (λ (u : List ℕ). b2 ++ u) (f2 ∙ ap (λ (u : List ℕ). u ++ y2) (symbol_is 58 colon is_colon)) ∙ sym (append_assoc b2 (codes ":") y2)),
      blanks_are b2 before2,
      record { pieces = h.is.pieces; split = alone_tokens h.is.pieces y2 c2 z2 text d2 f3 behind2 f4 end2 h.is.split; means = h.is.means },
      h.are_kept,
    )

-- a blank line, or a comment alone
nothing_line : (line : List ℕ) → Matches (blanks · perhaps comment) line → IsSpelled (lines.of_words [] []) line
nothing_line line (b, c, e, before, commented) = record {
  before = [];
  words_text = [];
  tail_text = b;
  comment = c;
  same = e;
  blank = no_blanks;
  are_words = refl;
  is_tail = blanks_are b before;
  is_comment = comment_is c commented;
}

-- ---- the commands
-- the command word of a form, as the cases spell it
abbrev key : LineForm → List ℕ
key f = (spelling (command_of f (fields_from [] [] []))).first

keys_listed : list_all (λ (row : CommandWord). bytes_eq row.1 (key row.0)) command_words ≡ true
keys_listed = refl

own : (f : LineForm) (line : List ℕ) (h : HasForm f line) → h.word ≡ key f
own f line h = told (bytes_eq h.word (key f)) (bytes_eq-Decides h.word (key f)) (passes (λ (row : CommandWord). bytes_eq row.1 (key row.0)) command_words (f, h.word) keys_listed h.listed)
  where
    told : (b : Bool) → Decides b (h.word ≡ key f) → b ≡ true → h.word ≡ key f
    told b d e = d.0 e

spelled_form : VariablesAreListed → (f : LineForm) (line : List ℕ) (h : HasForm f line) → Spells line (command_of f (fields_of f line h))
spelled_form variables_listed form.Nothing line h = nothing_line line h.matches
spelled_form variables_listed form.Names line h = plain_line h.word [] [] tt (key form.Names) (own form.Names line h) line h.matches
spelled_form variables_listed (form.OneName one_name.Drop) line h = plain_line h.word (name_form ∷ []) (lines.name ∷ []) (name_word, tt) (key (form.OneName one_name.Drop)) (own (form.OneName one_name.Drop) line h) line h.matches
spelled_form variables_listed (form.OneName one_name.Size) line h = plain_line h.word (name_form ∷ []) (lines.name ∷ []) (name_word, tt) (key (form.OneName one_name.Size)) (own (form.OneName one_name.Size) line h) line h.matches
spelled_form variables_listed (form.OneName one_name.Isempty) line h = plain_line h.word (name_form ∷ []) (lines.name ∷ []) (name_word, tt) (key (form.OneName one_name.Isempty)) (own (form.OneName one_name.Isempty) line h) line h.matches
spelled_form variables_listed (form.OneName one_name.Psize) line h = plain_line h.word (name_form ∷ []) (lines.name ∷ []) (name_word, tt) (key (form.OneName one_name.Psize)) (own (form.OneName one_name.Psize) line h) line h.matches
spelled_form variables_listed (form.OneName one_name.Ranking) line h = plain_line h.word (name_form ∷ []) (lines.name ∷ []) (name_word, tt) (key (form.OneName one_name.Ranking)) (own (form.OneName one_name.Ranking) line h) line h.matches
spelled_form variables_listed (form.OneName one_name.ShapePrint) line h = plain_line h.word (name_form ∷ []) (lines.name ∷ []) (name_word, tt) (key (form.OneName one_name.ShapePrint)) (own (form.OneName one_name.ShapePrint) line h) line h.matches
spelled_form variables_listed (form.NameAndPart name_and_part.Add) line h = part_line h.word (name_form ∷ []) cons (lines.name ∷ []) (name_word, tt) (key (form.NameAndPart name_and_part.Add)) (own (form.NameAndPart name_and_part.Add) line h) line h.matches
spelled_form variables_listed (form.NameAndPart name_and_part.Addgen) line h = part_line h.word (name_form ∷ []) gens (lines.name ∷ []) (name_word, tt) (key (form.NameAndPart name_and_part.Addgen)) (own (form.NameAndPart name_and_part.Addgen) line h) line h.matches
spelled_form variables_listed (form.NameAndPart name_and_part.Has) line h = part_line h.word (name_form ∷ []) point (lines.name ∷ []) (name_word, tt) (key (form.NameAndPart name_and_part.Has)) (own (form.NameAndPart name_and_part.Has) line h) line h.matches
spelled_form variables_listed (form.NameAndPart name_and_part.Relation) line h = part_line h.word (name_form ∷ []) con (lines.name ∷ []) (name_word, tt) (key (form.NameAndPart name_and_part.Relation)) (own (form.NameAndPart name_and_part.Relation) line h) line h.matches
spelled_form variables_listed (form.NameAndPart name_and_part.Max) line h = part_line h.word (name_form ∷ []) expr (lines.name ∷ []) (name_word, tt) (key (form.NameAndPart name_and_part.Max)) (own (form.NameAndPart name_and_part.Max) line h) line h.matches
spelled_form variables_listed (form.NameAndPart name_and_part.Min) line h = part_line h.word (name_form ∷ []) expr (lines.name ∷ []) (name_word, tt) (key (form.NameAndPart name_and_part.Min)) (own (form.NameAndPart name_and_part.Min) line h) line h.matches
spelled_form variables_listed (form.TwoNames two_names.Copy) line h = plain_line h.word (name_form ∷ name_form ∷ []) (lines.name ∷ lines.name ∷ []) (name_word, (name_word, tt)) (key (form.TwoNames two_names.Copy)) (own (form.TwoNames two_names.Copy) line h) line h.matches
spelled_form variables_listed (form.TwoNames two_names.Closure) line h = plain_line h.word (name_form ∷ name_form ∷ []) (lines.name ∷ lines.name ∷ []) (name_word, (name_word, tt)) (key (form.TwoNames two_names.Closure)) (own (form.TwoNames two_names.Closure) line h) line h.matches
spelled_form variables_listed (form.TwoNames two_names.Contains) line h = plain_line h.word (name_form ∷ name_form ∷ []) (lines.name ∷ lines.name ∷ []) (name_word, (name_word, tt)) (key (form.TwoNames two_names.Contains)) (own (form.TwoNames two_names.Contains) line h) line h.matches
spelled_form variables_listed (form.TwoNames two_names.Equal) line h = plain_line h.word (name_form ∷ name_form ∷ []) (lines.name ∷ lines.name ∷ []) (name_word, (name_word, tt)) (key (form.TwoNames two_names.Equal)) (own (form.TwoNames two_names.Equal) line h) line h.matches
spelled_form variables_listed (form.TwoNames two_names.Disjoint) line h = plain_line h.word (name_form ∷ name_form ∷ []) (lines.name ∷ lines.name ∷ []) (name_word, (name_word, tt)) (key (form.TwoNames two_names.Disjoint)) (own (form.TwoNames two_names.Disjoint) line h) line h.matches
spelled_form variables_listed (form.TwoNames two_names.Pset) line h = plain_line h.word (name_form ∷ name_form ∷ []) (lines.name ∷ lines.name ∷ []) (name_word, (name_word, tt)) (key (form.TwoNames two_names.Pset)) (own (form.TwoNames two_names.Pset) line h) line h.matches
spelled_form variables_listed (form.TwoNames two_names.Covers) line h = plain_line h.word (name_form ∷ name_form ∷ []) (lines.name ∷ lines.name ∷ []) (name_word, (name_word, tt)) (key (form.TwoNames two_names.Covers)) (own (form.TwoNames two_names.Covers) line h) line h.matches
spelled_form variables_listed (form.TwoNames two_names.Rank) line h = plain_line h.word (name_form ∷ name_form ∷ []) (lines.name ∷ lines.name ∷ []) (name_word, (name_word, tt)) (key (form.TwoNames two_names.Rank)) (own (form.TwoNames two_names.Rank) line h) line h.matches
spelled_form variables_listed (form.TwoNames two_names.ShapeOf) line h = plain_line h.word (name_form ∷ name_form ∷ []) (lines.name ∷ lines.name ∷ []) (name_word, (name_word, tt)) (key (form.TwoNames two_names.ShapeOf)) (own (form.TwoNames two_names.ShapeOf) line h) line h.matches
spelled_form variables_listed (form.TwoNames two_names.ShapeContains) line h = plain_line h.word (name_form ∷ name_form ∷ []) (lines.name ∷ lines.name ∷ []) (name_word, (name_word, tt)) (key (form.TwoNames two_names.ShapeContains)) (own (form.TwoNames two_names.ShapeContains) line h) line h.matches
spelled_form variables_listed (form.TwoNames two_names.ShapePoly) line h = plain_line h.word (name_form ∷ name_form ∷ []) (lines.name ∷ lines.name ∷ []) (name_word, (name_word, tt)) (key (form.TwoNames two_names.ShapePoly)) (own (form.TwoNames two_names.ShapePoly) line h) line h.matches
spelled_form variables_listed (form.TwoNames two_names.Hybrid) line h = plain_line h.word (name_form ∷ name_form ∷ []) (lines.name ∷ lines.name ∷ []) (name_word, (name_word, tt)) (key (form.TwoNames two_names.Hybrid)) (own (form.TwoNames two_names.Hybrid) line h) line h.matches
spelled_form variables_listed (form.ThreeNames three_names.Meet) line h = plain_line h.word (name_form ∷ name_form ∷ name_form ∷ []) (lines.name ∷ lines.name ∷ lines.name ∷ []) (name_word, (name_word, (name_word, tt))) (key (form.ThreeNames three_names.Meet)) (own (form.ThreeNames three_names.Meet) line h) line h.matches
spelled_form variables_listed (form.ThreeNames three_names.Hull) line h = plain_line h.word (name_form ∷ name_form ∷ name_form ∷ []) (lines.name ∷ lines.name ∷ lines.name ∷ []) (name_word, (name_word, (name_word, tt))) (key (form.ThreeNames three_names.Hull)) (own (form.ThreeNames three_names.Hull) line h) line h.matches
spelled_form variables_listed (form.ThreeNames three_names.Concat) line h = plain_line h.word (name_form ∷ name_form ∷ name_form ∷ []) (lines.name ∷ lines.name ∷ lines.name ∷ []) (name_word, (name_word, (name_word, tt))) (key (form.ThreeNames three_names.Concat)) (own (form.ThreeNames three_names.Concat) line h) line h.matches
spelled_form variables_listed (form.ThreeNames three_names.Elapse) line h = plain_line h.word (name_form ∷ name_form ∷ name_form ∷ []) (lines.name ∷ lines.name ∷ lines.name ∷ []) (name_word, (name_word, (name_word, tt))) (key (form.ThreeNames three_names.Elapse)) (own (form.ThreeNames three_names.Elapse) line h) line h.matches
spelled_form variables_listed (form.ThreeNames three_names.Widen) line h = plain_line h.word (name_form ∷ name_form ∷ name_form ∷ []) (lines.name ∷ lines.name ∷ lines.name ∷ []) (name_word, (name_word, (name_word, tt))) (key (form.ThreeNames three_names.Widen)) (own (form.ThreeNames three_names.Widen) line h) line h.matches
spelled_form variables_listed (form.ThreeNames three_names.Join) line h = plain_line h.word (name_form ∷ name_form ∷ name_form ∷ []) (lines.name ∷ lines.name ∷ lines.name ∷ []) (name_word, (name_word, (name_word, tt))) (key (form.ThreeNames three_names.Join)) (own (form.ThreeNames three_names.Join) line h) line h.matches
spelled_form variables_listed (form.ThreeNames three_names.PowersetMeet) line h = plain_line h.word (name_form ∷ name_form ∷ name_form ∷ []) (lines.name ∷ lines.name ∷ lines.name ∷ []) (name_word, (name_word, (name_word, tt))) (key (form.ThreeNames three_names.PowersetMeet)) (own (form.ThreeNames three_names.PowersetMeet) line h) line h.matches
spelled_form variables_listed (form.ThreeNames three_names.ShapeMeet) line h = plain_line h.word (name_form ∷ name_form ∷ name_form ∷ []) (lines.name ∷ lines.name ∷ lines.name ∷ []) (name_word, (name_word, (name_word, tt))) (key (form.ThreeNames three_names.ShapeMeet)) (own (form.ThreeNames three_names.ShapeMeet) line h) line h.matches
spelled_form variables_listed (form.ThreeNames three_names.ShapeHull) line h = plain_line h.word (name_form ∷ name_form ∷ name_form ∷ []) (lines.name ∷ lines.name ∷ lines.name ∷ []) (name_word, (name_word, (name_word, tt))) (key (form.ThreeNames three_names.ShapeHull)) (own (form.ThreeNames three_names.ShapeHull) line h) line h.matches
spelled_form variables_listed (form.SpaceAlone space_alone.Universe) line h = plain_line h.word (name_form ∷ top ∷ nat ∷ []) (lines.name ∷ of_top ∷ counted ∷ []) (name_word, (top_word, (count_word, tt))) (key (form.SpaceAlone space_alone.Universe)) (own (form.SpaceAlone space_alone.Universe) line h) line h.matches
spelled_form variables_listed (form.SpaceAlone space_alone.Empty) line h = plain_line h.word (name_form ∷ top ∷ nat ∷ []) (lines.name ∷ of_top ∷ counted ∷ []) (name_word, (top_word, (count_word, tt))) (key (form.SpaceAlone space_alone.Empty)) (own (form.SpaceAlone space_alone.Empty) line h) line h.matches
spelled_form variables_listed (form.SpaceAndPart space_and_part.Cons) line h = part_line h.word (name_form ∷ top ∷ nat ∷ []) cons (lines.name ∷ of_top ∷ counted ∷ []) (name_word, (top_word, (count_word, tt))) (key (form.SpaceAndPart space_and_part.Cons)) (own (form.SpaceAndPart space_and_part.Cons) line h) line h.matches
spelled_form variables_listed (form.SpaceAndPart space_and_part.Gens) line h = part_line h.word (name_form ∷ top ∷ nat ∷ []) gens (lines.name ∷ of_top ∷ counted ∷ []) (name_word, (top_word, (count_word, tt))) (key (form.SpaceAndPart space_and_part.Gens)) (own (form.SpaceAndPart space_and_part.Gens) line h) line h.matches
spelled_form variables_listed (form.TwoNamesNumber two_names_number.Embed) line h = plain_line h.word (name_form ∷ name_form ∷ nat ∷ []) (lines.name ∷ lines.name ∷ counted ∷ []) (name_word, (name_word, (count_word, tt))) (key (form.TwoNamesNumber two_names_number.Embed)) (own (form.TwoNamesNumber two_names_number.Embed) line h) line h.matches
spelled_form variables_listed (form.TwoNamesNumber two_names_number.Project) line h = plain_line h.word (name_form ∷ name_form ∷ nat ∷ []) (lines.name ∷ lines.name ∷ counted ∷ []) (name_word, (name_word, (count_word, tt))) (key (form.TwoNamesNumber two_names_number.Project)) (own (form.TwoNamesNumber two_names_number.Project) line h) line h.matches
spelled_form variables_listed (form.TwoNamesNumber two_names_number.Member) line h = plain_line h.word (name_form ∷ name_form ∷ nat ∷ []) (lines.name ∷ lines.name ∷ counted ∷ []) (name_word, (name_word, (count_word, tt))) (key (form.TwoNamesNumber two_names_number.Member)) (own (form.TwoNamesNumber two_names_number.Member) line h) line h.matches
spelled_form variables_listed (form.TwoNamesMap two_names_map.Image) line h = related_line h.word (name_form ∷ name_form ∷ var ∷ []) frac (lines.name ∷ lines.name ∷ of_variable ∷ []) (name_word, (name_word, (variable_word, tt))) (key (form.TwoNamesMap two_names_map.Image)) (own (form.TwoNamesMap two_names_map.Image) line h) line h.matches
spelled_form variables_listed (form.TwoNamesMap two_names_map.Preimage) line h = related_line h.word (name_form ∷ name_form ∷ var ∷ []) frac (lines.name ∷ lines.name ∷ of_variable ∷ []) (name_word, (name_word, (variable_word, tt))) (key (form.TwoNamesMap two_names_map.Preimage)) (own (form.TwoNamesMap two_names_map.Preimage) line h) line h.matches
spelled_form variables_listed (form.NameFormat name_format.Read) line h = plain_line h.word (name_form ∷ format ∷ []) (lines.name ∷ of_file ∷ []) (name_word, (file_word, tt)) (key (form.NameFormat name_format.Read)) (own (form.NameFormat name_format.Read) line h) line h.matches
spelled_form variables_listed (form.NameFormat name_format.Write) line h = plain_line h.word (name_form ∷ format ∷ []) (lines.name ∷ of_file ∷ []) (name_word, (file_word, tt)) (key (form.NameFormat name_format.Write)) (own (form.NameFormat name_format.Write) line h) line h.matches
spelled_form variables_listed (form.NameNumberName name_number_name.Init) line h = plain_line h.word (name_form ∷ nat ∷ name_form ∷ []) (lines.name ∷ counted ∷ lines.name ∷ []) (name_word, (count_word, (name_word, tt))) (key (form.NameNumberName name_number_name.Init)) (own (form.NameNumberName name_number_name.Init) line h) line h.matches
spelled_form variables_listed (form.NameNumberName name_number_name.Invariant) line h = plain_line h.word (name_form ∷ nat ∷ name_form ∷ []) (lines.name ∷ counted ∷ lines.name ∷ []) (name_word, (count_word, (name_word, tt))) (key (form.NameNumberName name_number_name.Invariant)) (own (form.NameNumberName name_number_name.Invariant) line h) line h.matches
spelled_form variables_listed (form.NameNumberName name_number_name.Flow) line h = plain_line h.word (name_form ∷ nat ∷ name_form ∷ []) (lines.name ∷ counted ∷ lines.name ∷ []) (name_word, (count_word, (name_word, tt))) (key (form.NameNumberName name_number_name.Flow)) (own (form.NameNumberName name_number_name.Flow) line h) line h.matches
spelled_form variables_listed (form.NameNumberPrefix name_number_prefix.Fixpoint) line h = plain_line h.word (name_form ∷ nat ∷ prefix_form ∷ []) (lines.name ∷ counted ∷ lines.prefix ∷ []) (name_word, (count_word, (prefix_word, tt))) (key (form.NameNumberPrefix name_number_prefix.Fixpoint)) (own (form.NameNumberPrefix name_number_prefix.Fixpoint) line h) line h.matches
spelled_form variables_listed (form.NameNumberPrefix name_number_prefix.Reach) line h = plain_line h.word (name_form ∷ nat ∷ prefix_form ∷ []) (lines.name ∷ counted ∷ lines.prefix ∷ []) (name_word, (count_word, (prefix_word, tt))) (key (form.NameNumberPrefix name_number_prefix.Reach)) (own (form.NameNumberPrefix name_number_prefix.Reach) line h) line h.matches
spelled_form variables_listed form.Print line h = plain_line h.word (stored_list ∷ name_form ∷ []) (of_side ∷ lines.name ∷ []) (side_word, (name_word, tt)) (key form.Print) (own form.Print line h) line h.matches
spelled_form variables_listed form.Remove line h = variables_line variables_listed h.word (name_form ∷ name_form ∷ []) (lines.name ∷ lines.name ∷ []) (name_word, (name_word, tt)) (key form.Remove) (own form.Remove line h) line h.matches
spelled_form variables_listed form.System line h = plain_line h.word (name_form ∷ nat ∷ nat ∷ []) (lines.name ∷ counted ∷ counted ∷ []) (name_word, (count_word, (count_word, tt))) (key form.System) (own form.System line h) line h.matches
spelled_form variables_listed form.Trans line h = plain_line h.word (name_form ∷ nat ∷ nat ∷ name_form ∷ []) (lines.name ∷ counted ∷ counted ∷ lines.name ∷ []) (name_word, (count_word, (count_word, (name_word, tt)))) (key form.Trans) (own form.Trans line h) line h.matches
spelled_form variables_listed form.Bounds line h = part_line h.word (name_form ∷ nat ∷ []) cons (lines.name ∷ counted ∷ []) (name_word, (count_word, tt)) (key form.Bounds) (own form.Bounds line h) line h.matches

-- a line that spells a command by the tables spells it by the cases
pub spelled : VariablesAreListed → (line : List ℕ) (c : Command) → readers.Spells line c → Spells line c
spelled variables_listed line c s = subst (Spells line) (sym s.is) (spelled_form variables_listed s.form line s.has)
