-- A run over the lines of a source, as they come.
use Rattle.std.proofs.Common.{◌≡◌, ℕ, ◌+◌, ◌^◌, ◌<◌, ◌≤◌, ◌⊎◌, List, [], ◌∷◌, ◌++◌, length, take, drop, refl, ap, subst, ◌∙◌, sym, append_assoc, length-append, Bool, true, false, inl, inr, arith}
use Rattle.std.specs.Prelude.{Option, Contains, ◌&&◌, ◌↔◌, MatchBool}
use Rattle.std.proofs.lemmas.Bool.{cases_lt}
use Rattle.std.specs.Str.Lines.{lines, strip_carriage_return}
use Rattle.std.specs.Io.KnownBytes.{append_known, IsAtEnd}
use Rattle.std.proofs.lemmas.Grind.{flat_map-append}
use Rattle.std.proofs.lemmas.List.Folds.{list_all-append}
use Rattle.std.proofs.lemmas.List.{append-nil}
use Rattle.std.proofs.lemmas.List.Elements.{All-append}
use Rattle.std.proofs.Math.Seq.{take-add, drop-append_seam, take-append_seam}
use Rattle.poly_io.specs.Cut.{cut, is_feed, LacksFeed}
use Rattle.poly_io.specs.LineReading.{Reading, Answers, EndsInOneRead}
use Rattle.poly_io.specs.declared.line_reader.LineAns.TheVariants.{Line, End, Failed, TooLong}
use Rattle.poly_io.proofs.CutLaws.{cut_at}
use Rattle.poly_io.proofs.Known.{append_known-append, append_known-nil}
use Rattle.calc_state.specs.State.{State, closed}
use Rattle.line_values.specs.Replies.{Reply, is_answer}
use Rattle.calc_state.specs.Line.{Step}
use Rattle.written_replies.specs.Replies.{Written, written, with_reply, reply_bytes, replies_bytes, is_clean}
use Rattle.calc_state.specs.Runs.{Run, at_end}
use Rattle.poly_io.specs.Counts.{HasRisen}
use Rattle.polycalc.specs.Outcomes.{Completes, WritesPrefix, AnswersWhole, AnswersEarlier, AnswersFirst, Outcome}
use Rattle.polycalc.specs.Endings.{Closes, done, refused, unwritten, unmade}
use Rattle.job_words.specs.declared.job.Job.TheVariants as job
use Rattle.written_replies.specs.declared.status.Status.{Status}
use Rattle.written_replies.specs.declared.status.Status.TheVariants.{Done, Refused, Usage, ReadFault, WriteFault, Memory, InputTooLong}
use Rattle.polycalc.proofs.RunLaws.{Run-then, written-more}
use Rattle.polycalc.proofs.CutRuns.{run_of_cut, parts_of_cut, one_of_cut, run_of_part}
use Rattle.polycalc.proofs.FirstLines.{AreWholeWhenCut, first_of_parts, line_of_fed, all_lines, bool_cases}

-- where a run stands: the bytes given so far are cut into the lines answered and what is pending, and the replies are
-- those that were written and those that are gathered
pub record Goes (given : List ℕ) (old now : Option (List ℕ)) (state : State) (reader : Reading) (w : Written) : Type 0 where
  pub done : List (List ℕ)
  pub replies : List Reply
  pub run : Run (closed []) done replies state
  pub cuts : (later : List ℕ) → (reader.ended ≡ true → later ≡ []) → cut (given ++ later) ≡ done ++ cut (reader.pending ++ later)
  pub flushed : List ℕ
  pub held : now ≡ append_known old flushed
  pub bytes : flushed ++ w.bytes ≡ replies_bytes replies
  pub clean : w.clean ≡ is_clean replies
  pub size : reader.taken ≡ length given

-- all replies are written where the source is to be read
abbrev pub IsReady : Reading → Written → Type 0
IsReady reader w = (w.bytes ≡ []) ⊎ Contains reader.pending 10

abbrev pub start_reading : Reading
start_reading = record { pending = []; taken = 0; ended = false; line = [] }

pub goes_start : (held : Option (List ℕ)) (reader : Reading) → reader ≡ start_reading → Goes [] held held (closed []) reader (written [])
goes_start held reader e = record {
  done = [];
  replies = [];
  run = refl;
  cuts = λ (later : List ℕ) (h : reader.ended ≡ true → later ≡ []). ap (λ (r : Reading). cut (r.pending ++ later)) (sym e);
  flushed = [];
  held = sym (append_known-nil held);
  bytes = refl;
  clean = refl;
  size = ap (λ (r : Reading). r.taken) e;
}

-- the source gave nothing to a reader that had ended
abbrev pub IsStill : List ℕ → Reading → Reading → Type 0
IsStill given old new = old.ended ≡ true → (new.ended ≡ true) × (new.taken ≡ old.taken)

none_given : (given : List ℕ) (old new : Reading) → new.taken ≡ old.taken + length given → IsStill given old new → old.ended ≡ true → given ≡ []
none_given [] old new t s e = refl
none_given (b ∷ given) old new t s e = (let same = (s e).1 in absurd (omega arith))

nothing_more : (given later : List ℕ) (old new : Reading) → new.taken ≡ old.taken + length given → IsStill given old new → (new.ended ≡ true → later ≡ []) → old.ended ≡ true → given ++ later ≡ []
nothing_more given later old new t s h e = ap (λ (g : List ℕ). g ++ later) (none_given given old new t s e) ∙ h (s e).0

-- a line more, and its reply
pub goes_line : (given more : List ℕ) (old now : Option (List ℕ)) (state after : State) (reader new : Reading) (w v : Written) (reply : Reply) → Goes given old now state reader w →
    new.taken ≡ reader.taken + length more → IsStill more reader new → Answers more reader new Line → Step state new.line reply after → v ≡ with_reply w reply → Goes (given ++ more) old now after new v
goes_line given more old now state after reader new w v reply g t s a step e = record {
  done = g.done ++ new.line ∷ [];
  replies = g.replies ++ reply ∷ [];
  run = Run-then (closed []) g.done g.replies state new.line reply after g.run step;
  cuts = λ (later : List ℕ) (h : new.ended ≡ true → later ≡ []).
      (ap cut (append_assoc given more later) ∙ g.cuts (more ++ later) (nothing_more more later reader new t s h)
      ∙ ap (λ (x : List (List ℕ)). g.done ++ x) (a.0 later h) ∙ sym (append_assoc g.done (new.line ∷ []) (cut (new.pending ++ later))));
  flushed = g.flushed;
  held = g.held;
  bytes = ap (λ (x : Written). g.flushed ++ x.bytes) e ∙ sym (append_assoc g.flushed w.bytes (reply_bytes reply)) ∙ ap (λ (x : List ℕ). x ++ reply_bytes reply) g.bytes
      ∙ ap (λ (x : Written). x.bytes) (sym (written-more g.replies reply));
  clean = ap (λ (x : Written). x.clean) e ∙ ap (λ (c : Bool). c && is_answer reply) g.clean ∙ ap (λ (x : Written). x.clean) (sym (written-more g.replies reply));
  size = omega (arith, t, g.size, length-append given more);
}

-- the gathered replies are written
pub goes_written : (given : List ℕ) (old now later : Option (List ℕ)) (state : State) (reader : Reading) (w v : Written) → Goes given old now state reader w →
    later ≡ append_known now w.bytes → v.bytes ≡ [] → v.clean ≡ w.clean → Goes given old later state reader v
goes_written given old now later state reader w v g h b c = record {
  done = g.done;
  replies = g.replies;
  run = g.run;
  cuts = g.cuts;
  flushed = g.flushed ++ w.bytes;
  held = h ∙ ap (λ (k : Option (List ℕ)). append_known k w.bytes) g.held ∙ sym (append_known-append old g.flushed w.bytes);
  bytes = ap (λ (x : List ℕ). (g.flushed ++ w.bytes) ++ x) b ∙ append-nil (g.flushed ++ w.bytes) ∙ g.bytes;
  clean = c ∙ g.clean;
  size = g.size;
}

front : (u v : List ℕ) (n : ℕ) → take (length u + n) (u ++ v) ≡ u ++ take n v
front u v n =
    take-add (length u) n (u ++ v) ∙ ap (λ (t : List ℕ). t ++ take n (drop (length u) (u ++ v))) (take-append_seam u v)
    ∙ ap (λ (t : List ℕ). u ++ take n t) (drop-append_seam u v)

parts_empty : (u v : List ℕ) → u ++ v ≡ [] → (u ≡ []) × (v ≡ [])
parts_empty [] v e = (refl, e)
parts_empty (b ∷ u) v e = cc

empty_lacks : (p : List ℕ) → p ≡ [] → Contains p 10 → ⊥
empty_lacks [] e (k, h, i) = omega arith
empty_lacks (b ∷ p) e h = cc

-- the first lines of some bytes are answered, and a front of the replies is written
prefix_of_cut : (all : List ℕ) (answered others : List (List ℕ)) (left old new : Option (List ℕ)) (state : State) (replies : List Reply) (n : ℕ) → cut all ≡ answered ++ others → AreWholeWhenCut all left answered →
    Run (closed []) answered replies state → new ≡ append_known old (take n (replies_bytes replies)) → WritesPrefix all left old new
prefix_of_cut all answered others left old new state replies n e q r h =
    let p = first_of_parts all left answered others e q in
    record {
      answered = p.answered;
      others = p.others;
      first = p.first;
      state = state;
      replies = replies;
      run = run_of_cut (closed []) p.answered replies state (subst (λ (t : List (List ℕ)). Run (closed []) t replies state) (sym p.is_cut) r);
      further = [];
      is_end = inl refl;
      count = n;
      held = h ∙ ap (λ (rs : List Reply). append_known old (take n (replies_bytes rs))) (sym (append-nil replies));
    }

-- the first lines of some bytes are answered, and all replies to them are written
first_of_cut : (all : List ℕ) (answered others : List (List ℕ)) (left old new : Option (List ℕ)) (state : State) (replies : List Reply) → cut all ≡ answered ++ others → AreWholeWhenCut all left answered →
    Run (closed []) answered replies state → new ≡ append_known old (replies_bytes replies) → AnswersFirst all left old new
first_of_cut all answered others left old new state replies e q r h =
    let p = first_of_parts all left answered others e q in
    record {
      answered = p.answered;
      others = p.others;
      first = p.first;
      state = state;
      replies = replies;
      run = run_of_cut (closed []) p.answered replies state (subst (λ (t : List (List ℕ)). Run (closed []) t replies state) (sym p.is_cut) r);
      held = h;
    }

-- all whole lines of some bytes are answered
whole_of_cut : (all : List ℕ) (answered : List (List ℕ)) (last : List ℕ) (old new : Option (List ℕ)) (state : State) (replies : List Reply) → cut (all ++ 10 ∷ []) ≡ answered ++ last ∷ [] →
    Run (closed []) answered replies state → new ≡ append_known old (replies_bytes replies) → AnswersWhole all old new
whole_of_cut all answered last old new state replies e r h =
    let p = parts_of_cut (lines (all ++ 10 ∷ [])) answered (last ∷ []) e in
    let o = one_of_cut p.second last p.second_cut in
    record {
      whole = p.first;
      last = o.line;
      cut = p.both ∙ ap (λ (t : List (List ℕ)). p.first ++ t) o.is;
      state = state;
      replies = replies;
      run = run_of_part (lines (all ++ 10 ∷ [])) answered (last ∷ []) replies state p r;
      held = h;
    }

some_written : (given : List ℕ) (old now later : Option (List ℕ)) (state : State) (reader : Reading) (w : Written) (n : ℕ) (g : Goes given old now state reader w) → later ≡ append_known now (take n w.bytes) →
    later ≡ append_known old (take (length g.flushed + n) (replies_bytes g.replies))
some_written given old now later state reader w n g h =
    h ∙ ap (λ (k : Option (List ℕ)). append_known k (take n w.bytes)) g.held ∙ sym (append_known-append old g.flushed (take n w.bytes))
    ∙ ap (λ (x : List ℕ). append_known old x) (sym (front g.flushed w.bytes n) ∙ ap (take (length g.flushed + n)) g.bytes)

-- the lines that are answered are whole ones, unless the source has ended
whole_of_goes : (given more : List ℕ) (left old now : Option (List ℕ)) (state : State) (reader : Reading) (w : Written) (g : Goes given old now state reader w) →
    (reader.ended ≡ true → IsAtEnd left) → AreWholeWhenCut (given ++ more) left g.done
whole_of_goes given more left old now state reader w g last =
    elim (bool_cases reader.ended) [
      | inl ended ↦ inl (last ended)
      | inr going ↦
          let line = line_of_fed (reader.pending ++ more) in
          inr (
            line.next,
            line.others,
            ap cut (append_assoc given more (10 ∷ [])) ∙ g.cuts (more ++ 10 ∷ []) (λ (e : reader.ended ≡ true). (let no : true ≡ false = sym e ∙ going in cc))
                ∙ ap (λ (x : List (List ℕ)). g.done ++ x) (ap cut (sym (append_assoc reader.pending more (10 ∷ []))) ∙ line.cut_is),
          )
    ]

-- a front of what was gathered is written
pub front_of_goes : (given : List ℕ) (left old now later : Option (List ℕ)) (state : State) (reader : Reading) (w : Written) (n : ℕ) → (reader.ended ≡ true → IsAtEnd left) → Goes given old now state reader w →
    later ≡ append_known now (take n w.bytes) → WritesPrefix given left old later
front_of_goes given left old now later state reader w n last g h =
    prefix_of_cut given g.done (cut (reader.pending ++ [])) left old later state g.replies (length g.flushed + n)
    (ap cut (sym (append-nil given)) ∙ g.cuts [] (λ (e : reader.ended ≡ true). refl))
    (subst (λ (x : List ℕ). AreWholeWhenCut x left g.done) (append-nil given) (whole_of_goes given [] left old now state reader w g last))
    g.run (some_written given old now later state reader w n g h)

-- all that was gathered is written
all_written : (given : List ℕ) (old now : Option (List ℕ)) (state : State) (reader : Reading) (w : Written) (g : Goes given old now state reader w) → w.bytes ≡ [] → now ≡ append_known old (replies_bytes g.replies)
all_written given old now state reader w g all = g.held ∙ ap (append_known old) (sym (append-nil g.flushed) ∙ ap (λ (x : List ℕ). g.flushed ++ x) (sym all) ∙ g.bytes)

-- nothing that was gathered is written
none_written : (given : List ℕ) (old now : Option (List ℕ)) (state : State) (reader : Reading) (w : Written) (g : Goes given old now state reader w) →
    now ≡ append_known old (take (length g.flushed + 0) (replies_bytes g.replies))
none_written given old now state reader w g = g.held ∙ ap (append_known old) (sym (append-nil g.flushed) ∙ sym (front g.flushed w.bytes 0) ∙ ap (take (length g.flushed + 0)) g.bytes)

-- the input has ended: all lines are answered, and all replies written
pub record HasEnded (all : List ℕ) (old now : Option (List ℕ)) (state : State) (w : Written) : Type 0 where
  pub replies : List Reply
  pub run : Run (closed []) (lines all) replies state
  pub held : now ≡ append_known old (replies_bytes replies)
  pub clean : w.clean ≡ is_clean replies

pub written_at_end : (more : List ℕ) (reader new : Reading) (w : Written) → IsReady reader w → Answers more reader new End → w.bytes ≡ []
written_at_end more reader new w r a =
    let none = parts_empty reader.pending more a.1 in
    elim r [ inl x ↦ x | inr y ↦ absurd (empty_lacks reader.pending none.0 y) ]

pub goes_end : (given more : List ℕ) (old now : Option (List ℕ)) (state : State) (reader new : Reading) (w : Written) → Goes given old now state reader w → IsReady reader w →
    new.taken ≡ reader.taken + length more → IsStill more reader new → Answers more reader new End → HasEnded (given ++ more) old now state w
goes_end given more old now state reader new w g r t s a =
    let none = parts_empty reader.pending more a.1 in
    let done : cut (given ++ more) ≡ g.done =
    (ap cut (sym (append-nil (given ++ more)) ∙ append_assoc given more []) ∙ g.cuts (more ++ []) (λ (e : reader.ended ≡ true). (append-nil more ∙ none.1))
    ∙ ap (λ (x : List ℕ). g.done ++ cut (reader.pending ++ x)) (append-nil more) ∙ ap (λ (x : List ℕ). g.done ++ cut x) a.1 ∙ append-nil g.done) in
    record {
      replies = g.replies;
      run = run_of_cut (closed []) (lines (given ++ more)) g.replies state (subst (λ (x : List (List ℕ)). Run (closed []) x g.replies state) (sym done) g.run);
      held = all_written given old now state reader w g (written_at_end more reader new w r a);
      clean = g.clean;
    }

both_bytes : (replies further : List Reply) → replies_bytes (replies ++ further) ≡ replies_bytes replies ++ replies_bytes further
both_bytes replies further = flat_map-append reply_bytes replies further

completes : (all : List ℕ) (old now later : Option (List ℕ)) (state : State) (w : Written) (clean : Bool) → HasEnded all old now state w → (w.clean && is_clean (at_end state)) ≡ clean → later ≡ append_known now (replies_bytes (at_end state)) → Completes all clean old later
completes all old now later state w clean h verdict held = record {
  state = state;
  replies = h.replies;
  run = h.run;
  held = held ∙ ap (λ (k : Option (List ℕ)). append_known k (replies_bytes (at_end state))) h.held ∙ sym (append_known-append old (replies_bytes h.replies) (replies_bytes (at_end state))) ∙ ap (append_known old) (sym (both_bytes h.replies (at_end state)));
  verdict = list_all-append is_answer h.replies (at_end state) ∙ ap (λ (b : Bool). b && is_clean (at_end state)) (sym h.clean) ∙ verdict;
}

cut_short : (all : List ℕ) (left old now later : Option (List ℕ)) (state : State) (w : Written) (n : ℕ) → IsAtEnd left → HasEnded all old now state w → later ≡ append_known now (take n (replies_bytes (at_end state))) → WritesPrefix all left old later
cut_short all left old now later state w n last h held = record {
  answered = lines all;
  others = [];
  first = all_lines all left last;
  state = state;
  replies = h.replies;
  run = h.run;
  further = at_end state;
  is_end = inr (last, refl, refl);
  count = length (replies_bytes h.replies) + n;
  held = held ∙ ap (λ (k : Option (List ℕ)). append_known k (take n (replies_bytes (at_end state)))) h.held ∙ sym (append_known-append old (replies_bytes h.replies) (take n (replies_bytes (at_end state))))
      ∙ ap (append_known old) (sym (front (replies_bytes h.replies) (replies_bytes (at_end state)) n) ∙ ap (take (length (replies_bytes h.replies) + n)) (sym (both_bytes h.replies (at_end state))));
}

-- the outcome of a script that has ended
pub ends_script : (all : List ℕ) (left old now later : Option (List ℕ)) (state : State) (w : Written) (status : Status) → length all ≤ 2 ^ 26 → IsAtEnd left → HasEnded all old now state w → Closes (at_end state) w.clean now later status → Outcome job.Run all left old later status
ends_script all left old now later state w Done few last h (done verdict held) = (few, last, completes all old now later state w true h verdict held)
ends_script all left old now later state w Refused few last h (refused verdict held) = (few, last, completes all old now later state w false h verdict held)
ends_script all left old now later state w WriteFault few last h (unwritten n held) = (few, cut_short all left old now later state w n last h held)
ends_script all left old now later state w Memory few last h (unmade n held) = (few, cut_short all left old now later state w n last h held)
ends_script all left old now later state w Usage few last h closes = elim closes [ ]
ends_script all left old now later state w ReadFault few last h closes = elim closes [ ]
ends_script all left old now later state w InputTooLong few last h closes = elim closes [ ]

-- a read failed
pub goes_failed : (given more : List ℕ) (old now : Option (List ℕ)) (state : State) (reader new : Reading) (w : Written) → Goes given old now state reader w → w.bytes ≡ [] →
    new.taken ≡ reader.taken + length more → IsStill more reader new → new.ended ≡ false → Answers more reader new Failed → AnswersWhole (given ++ more) old now
goes_failed given more old now state reader new w g all t s going a =
    let open_reader : reader.ended ≡ true → ⊥ = λ (e : reader.ended ≡ true). (let no : true ≡ false = sym (s e).0 ∙ going in cc) in
    whole_of_cut (given ++ more) g.done (take 65536 (strip_carriage_return new.pending)) old now state g.replies
    (ap cut (append_assoc given more (10 ∷ [])) ∙ g.cuts (more ++ 10 ∷ []) (λ (e : reader.ended ≡ true). absurd (open_reader e))
    ∙ ap (λ (x : List (List ℕ)). g.done ++ x) (a.0 (10 ∷ []) ∙ cut_at new.pending [] a.1))
    g.run (all_written given old now state reader w g all)

-- too many bytes were given
pub goes_too_long : (given more : List ℕ) (left old now : Option (List ℕ)) (state : State) (reader new : Reading) (w : Written) → (reader.ended ≡ true → IsAtEnd left) → Goes given old now state reader w →
    new.taken ≡ reader.taken + length more → IsStill more reader new → Answers more reader new TooLong → WritesPrefix (given ++ more) left old now
goes_too_long given more left old now state reader new w last g t s a =
    prefix_of_cut (given ++ more) g.done (cut (new.pending ++ [])) left old now state g.replies (length g.flushed + 0)
    (ap cut (sym (append-nil (given ++ more)) ∙ append_assoc given more [])
    ∙ g.cuts (more ++ []) (nothing_more more [] reader new t s (λ (e : new.ended ≡ true). refl)) ∙ ap (λ (x : List (List ℕ)). g.done ++ x) (a.0 []))
    (whole_of_goes given more left old now state reader w g last) g.run (none_written given old now state reader w g)

-- and all whole lines that were given before the last read are answered
pub goes_earlier : (given more : List ℕ) (old now : Option (List ℕ)) (state : State) (reader : Reading) (w : Written) → Goes given old now state reader w → w.bytes ≡ [] →
    (reader.ended ≡ true → ⊥) → LacksFeed reader.pending → EndsInOneRead more → AnswersEarlier (given ++ more) old now
goes_earlier given more old now state reader w g all going lacks q =
    let line = reader.pending ++ q.quiet in
    record {
      earlier = given ++ q.quiet;
      last = q.last;
      parts = ap (λ (x : List ℕ). given ++ x) q.parts ∙ sym (append_assoc given q.quiet q.last);
      few = q.few;
      answers = whole_of_cut (given ++ q.quiet) g.done (take 65536 (strip_carriage_return line)) old now state g.replies
          (ap cut (append_assoc given q.quiet (10 ∷ [])) ∙ g.cuts (q.quiet ++ 10 ∷ []) (λ (e : reader.ended ≡ true). absurd (going e))
          ∙ ap (λ (x : List (List ℕ)). g.done ++ x)
          (ap cut (sym (append_assoc reader.pending q.quiet (10 ∷ []))) ∙ cut_at line [] (All-append (λ (b : ℕ). is_feed b ≡ false) reader.pending q.quiet lacks q.lacks)))
          g.run (all_written given old now state reader w g all);
    }

-- a line was taken, and its reply wasn't had
line_cut : (given more : List ℕ) (old now : Option (List ℕ)) (state : State) (reader new : Reading) (w : Written) (g : Goes given old now state reader w) →
    new.taken ≡ reader.taken + length more → IsStill more reader new → Answers more reader new Line → cut (given ++ more) ≡ g.done ++ new.line ∷ cut (new.pending ++ [])
line_cut given more old now state reader new w g t s a =
    ap cut (sym (append-nil (given ++ more)) ∙ append_assoc given more [])
    ∙ g.cuts (more ++ []) (nothing_more more [] reader new t s (λ (e : new.ended ≡ true). refl)) ∙ ap (λ (x : List (List ℕ)). g.done ++ x) (a.0 [] (λ (e : new.ended ≡ true). refl))

-- all that was gathered before it is written
pub goes_before : (given more : List ℕ) (left old now later : Option (List ℕ)) (state : State) (reader new : Reading) (w : Written) → (reader.ended ≡ true → IsAtEnd left) → Goes given old now state reader w →
    new.taken ≡ reader.taken + length more → IsStill more reader new → Answers more reader new Line → later ≡ append_known now w.bytes → AnswersFirst (given ++ more) left old later
goes_before given more left old now later state reader new w last g t s a h =
    first_of_cut (given ++ more) g.done (new.line ∷ cut (new.pending ++ [])) left old later state g.replies (line_cut given more old now state reader new w g t s a)
    (whole_of_goes given more left old now state reader w g last) g.run
    (h ∙ ap (λ (k : Option (List ℕ)). append_known k w.bytes) g.held ∙ sym (append_known-append old g.flushed w.bytes) ∙ ap (append_known old) g.bytes)

-- a front of it is written
unanswered : (given more : List ℕ) (left old now later : Option (List ℕ)) (state : State) (reader new : Reading) (w : Written) (n : ℕ) → (reader.ended ≡ true → IsAtEnd left) → Goes given old now state reader w →
    new.taken ≡ reader.taken + length more → IsStill more reader new → Answers more reader new Line → later ≡ append_known now (take n w.bytes) → WritesPrefix (given ++ more) left old later
unanswered given more left old now later state reader new w n last g t s a h =
    prefix_of_cut (given ++ more) g.done (new.line ∷ cut (new.pending ++ [])) left old later state g.replies (length g.flushed + n) (line_cut given more old now state reader new w g t s a)
    (whole_of_goes given more left old now state reader w g last) g.run (some_written given old now later state reader w n g h)

pub goes_unanswered : (given more : List ℕ) (left old now later : Option (List ℕ)) (state : State) (reader new : Reading) (w : Written) (n : ℕ) (status : Status) → length (given ++ more) ≤ 2 ^ 26 → (reader.ended ≡ true → IsAtEnd left) → Goes given old now state reader w →
    new.taken ≡ reader.taken + length more → IsStill more reader new → Answers more reader new Line → later ≡ append_known now (take n w.bytes) →
    (status ≡ WriteFault) ⊎ (status ≡ Memory) → Outcome job.Run (given ++ more) left old later status
goes_unanswered given more left old now later state reader new w n status few last g t s a h (inl e) =
    subst (λ (x : Status). Outcome job.Run (given ++ more) left old later x) (sym e) (few, unanswered given more left old now later state reader new w n last g t s a h)
goes_unanswered given more left old now later state reader new w n status few last g t s a h (inr e) =
    subst (λ (x : Status). Outcome job.Run (given ++ more) left old later x) (sym e) (few, unanswered given more left old now later state reader new w n last g t s a h)

-- the input has ended: all lines are among the first
pub ended_before : (all : List ℕ) (left old now : Option (List ℕ)) (state : State) (w : Written) → IsAtEnd left → HasEnded all old now state w → AnswersFirst all left old now
ended_before all left old now state w last h = record {
  answered = lines all;
  others = [];
  first = all_lines all left last;
  state = state;
  replies = h.replies;
  run = h.run;
  held = h.held;
}

pub none_before : (left held : Option (List ℕ)) → AnswersFirst [] left held held
none_before left held = first_of_cut [] [] (cut []) left held held (closed []) [] refl (inr ([], [], refl)) refl (sym (append_known-nil held))

-- a count that has risen in a part of a call has risen in the call
pub risen_since : (old mid new : ℕ) → old ≤ mid → HasRisen mid new → HasRisen old new
risen_since old mid new h (inl k) = inl (omega (arith, h, k))
risen_since old mid new h (inr e) = inr e

-- nothing is a front of the replies to no line
pub nothing_streamed : (left held : Option (List ℕ)) → WritesPrefix [] left held held
nothing_streamed left held = record {
  answered = [];
  others = lines [];
  first = record { cut = refl; whole = inr (record { next = []; others = []; cut = refl }) };
  state = closed [];
  replies = [];
  run = refl;
  further = [];
  is_end = inl refl;
  count = 0;
  held = sym (append_known-nil held);
}

pub few_taken : (A : Type 0) (n : ℕ) → A ↔ (67108864 < n) → (A → ⊥) → n ≤ 67108864
few_taken A n h never = elim (cases_lt 67108864 n) [ inl x ↦ absurd (never (h.1 x)) | inr y ↦ y ]

pub size_given : (given more : List ℕ) (reader new : Reading) → reader.taken ≡ length given → new.taken ≡ reader.taken + length more → new.taken ≡ length (given ++ more)
size_given given more reader new e t = omega (arith, e, t, length-append given more)

pub match_true : (b : Bool) (A B : Type 0) → b ≡ true → MatchBool b A B → A
match_true true A B e h = h
match_true false A B e h = cc
