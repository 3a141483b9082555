-- A line is a text and its newline, and what a sink holds after both.
use Rattle.std.proofs.Common.{◌≡◌, ◌≢◌, ◌⊎◌, inl, inr, ℕ, List, [], ◌∷◌, ◌++◌, Bool, false, Option, Result, Ok, Err, IfErr, refl, subst, ◌∙◌}
use Rattle.schemagen_run.proofs.Vocabulary.{IsTrue, Appends, Appends-trans, IfErr-at_err, on_ok_weaker, Row, IsAccepted, HasPlainNotes, Text, IsSent, IsSentInPart, AppendsBeginning, begun_longer, begun_after, IsTableFault, IsTypesFault, IsOutside, fault_of_writing, GivesAll, IsTableText, IsFaultyTable, IsUnplaced, IsLineRefusal, WritesLine, WritesLineFor}
use Rattle.schemars_text.specs.declared.error.OrderedError.{OrderedError}
use Rattle.schemars_text.specs.declared.error.OrderedError.TheVariants as ordered
use Rattle.schemagen_run.specs.declared.words.Asked.{Asked}
use Rattle.schemagen_run.specs.declared.fault.Fault.{Fault}
use Rattle.schemagen_run.specs.declared.fault.Fault.TheVariants.{Refused}
use Rattle.schemars_generate.specs.declared.error.TheConstants.{OUT_OF_MEMORY, DEFINITIONS_PATH}
use Rattle.schemagen_run.specs.declared.fault.TheConstants.{WRITE}
use Rattle.schemagen_run.proofs.Runs.{is_line_fault, line_is_no_other, read_is_faulty, has_no_place, is_outside}

-- a text, which is the stated one where there are no floats, and a newline
abbrev pub IsLine : Bool → Text → Text → Type 0
IsLine floats stated line = (text : Text) × (floats ≡ false → text ≡ stated) × (line ≡ text ++ 10 ∷ [])

-- a line of which P holds is one of which Q does
pub weaker : {S T : Type 0} {bytes : S → Option Text} {has_failed : S → Bool} (P Q : Text → Type 0) (r : Result T Fault) (old new : S)
    → ((line : Text) → P line → Q line) → WritesLine bytes has_failed P r old new → WritesLine bytes has_failed Q r old new
weaker P Q (Ok x) old new f w = record {
  done = let (line, p, appended) = w.done in (line, f line p, appended);
  write = λ is. cc;
  failed = λ is. cc;
  sound = w.sound;
  unwritten = tt;
}
weaker P Q (Err e) old new f w = record {
  done = tt;
  write = λ is. let (line, p, begun) = w.write is in (line, f line p, begun);
  failed = w.failed;
  sound = tt;
  unwritten = w.unwritten;
}

-- what is told of one answer is told of another that ends in the same way
pub as_written : {S T U : Type 0} {bytes : S → Option Text} {has_failed : S → Bool} {P : Text → Type 0} (x : T) (y : U) (old new : S)
    → WritesLine bytes has_failed P (Ok x) old new → WritesLine bytes has_failed P (Ok y) old new
as_written x y old new w = record {
  done = w.done;
  write = λ is. cc;
  failed = λ is. cc;
  sound = w.sound;
  unwritten = tt;
}

pub as_refused : {S T U : Type 0} {bytes : S → Option Text} {has_failed : S → Bool} {P : Text → Type 0} (r : Result T Fault) (e : Fault)
    (old new : S) → r ≡ Err e → WritesLine {T = U} bytes has_failed P (Err e) old new → WritesLine bytes has_failed P r old new
as_refused (Ok x) e old new is w = cc
as_refused (Err f) e old new is w =
    let same : f ≡ e = cc in
    record {
      done = tt;
      write = λ failed. w.write cc;
      failed = λ failed. w.failed cc;
      sound = tt;
      unwritten = λ other. w.unwritten (λ failed. other (same ∙ failed));
    }

-- nothing is written at another refusal
pub unwritten : {S T : Type 0} (bytes : S → Option Text) (has_failed : S → Bool) (P : Text → Type 0) (r : Result T Fault) (e : Fault)
    (old new : S) → r ≡ Err e → e ≢ Refused WRITE → new ≡ old → WritesLine bytes has_failed P r old new
unwritten bytes has_failed P (Ok x) e old new is other same = cc
unwritten bytes has_failed P (Err f) e old new is other same = record {
  done = tt;
  write = λ failed. absurd (other cc);
  failed = λ failed. absurd (other cc);
  sound = tt;
  unwritten = λ _. same;
}

-- the sink has taken the text, and its newline or no more
pub ended : {S T : Type 0} (bytes : S → Option Text) (has_failed : S → Bool) (floats : Bool) (stated : Text) (old middle new : S)
    (r : Result T Fault) → IsSent floats stated (bytes old) (bytes middle) (has_failed middle)
    → WritesLine bytes has_failed (λ line. line ≡ 10 ∷ []) r middle new → IfErr r (λ e. e ≡ Refused WRITE)
    → WritesLine bytes has_failed (IsLine floats stated) r old new
ended bytes has_failed floats stated old middle new (Ok x) s w only = record {
  done =
      let (line, is, appended) = w.done in (
        s.text ++ 10 ∷ [],
        (s.text, s.is, refl),
        Appends-trans (bytes old) (bytes middle) (bytes new) s.text (10 ∷ []) s.appended
            (subst (λ (t : Text). Appends (bytes middle) (bytes new) t) is appended),
      );
  write = λ is. cc;
  failed = λ is. cc;
  sound = w.sound;
  unwritten = tt;
}
ended bytes has_failed floats stated old middle new (Err e) s w only = record {
  done = tt;
  write = λ is.
      let (line, newline, begun) = w.write is in (
        s.text ++ 10 ∷ [],
        (s.text, s.is, refl),
        begun_after (bytes old) (bytes middle) (bytes new) s.text (10 ∷ []) s.appended
            (subst (λ (t : Text). AppendsBeginning (bytes middle) (bytes new) t) newline begun),
      );
  failed = w.failed;
  sound = tt;
  unwritten = λ other. absurd (other only);
}

-- the sink has failed within the text
pub broken : {S T : Type 0} (bytes : S → Option Text) (has_failed : S → Bool) (floats : Bool) (stated : Text) (old new : S)
    (r : Result T Fault) → r ≡ Err (Refused WRITE) → IsSentInPart floats stated (bytes old) (bytes new) → IsTrue (has_failed new)
    → WritesLine bytes has_failed (IsLine floats stated) r old new
broken bytes has_failed floats stated old new (Ok x) is s failed = cc
broken bytes has_failed floats stated old new (Err e) is s failed = record {
  done = tt;
  write = λ _. (s.text ++ 10 ∷ [], (s.text, s.is, refl), begun_longer (bytes old) (bytes new) s.text (10 ∷ []) s.begun);
  failed = λ _. failed;
  sound = tt;
  unwritten = λ other. absurd (other cc);
}

-- the text was not written to its end
pub stopped : {S T : Type 0} (bytes : S → Option Text) (has_failed : S → Bool) (floats : Bool) (stated : Text) (old new : S)
    (e : OrderedError) (r : Result T Fault) → r ≡ Err (fault_of_writing e)
    → (e ≡ ordered.Write → IsSentInPart floats stated (bytes old) (bytes new)) → (e ≡ ordered.Write → IsTrue (has_failed new))
    → (e ≡ ordered.OutOfMemory → new ≡ old) → WritesLine bytes has_failed (IsLine floats stated) r old new
stopped bytes has_failed floats stated old new ordered.OutOfMemory r is begun failed memory =
    unwritten bytes has_failed (IsLine floats stated) r (Refused OUT_OF_MEMORY) old new is (λ e. cc) (memory refl)
stopped bytes has_failed floats stated old new ordered.Write r is begun failed memory =
    broken bytes has_failed floats stated old new r is (begun refl) (failed refl)

-- ---- the line of what the source has given

-- a line of which P holds is the line of that
pub line_of_given : {S T : Type 0} (bytes : S → Option Text) (has_failed : S → Bool) {IsLine : List ℕ → (Text → Type 0) → Type 0}
    (P : Text → Type 0) (left_old left_new : Option (List ℕ)) (r : Result T Fault) (old new : S)
    → ((line : Text) → P line → (Q : Text → Type 0) → Q line → GivesAll left_old left_new (λ given. IsLine given Q))
    → WritesLine bytes has_failed P r old new → WritesLineFor bytes has_failed IsLine left_old left_new r old new
line_of_given bytes has_failed P left_old left_new r old new f w = record {
  write = λ is. let (line, p, begun) = w.write is in f line p (AppendsBeginning (bytes old) (bytes new)) begun;
  done = on_ok_weaker r (λ (line, p, appended). f line p (Appends (bytes old) (bytes new)) appended) w.done;
  failed = w.failed;
  sound = w.sound;
  unwritten = w.unwritten;
}

-- at a refusal that is not of the sink it has taken nothing
pub no_line : {S T : Type 0} (bytes : S → Option Text) (has_failed : S → Bool) {IsLine : List ℕ → (Text → Type 0) → Type 0}
    (left_old left_new : Option (List ℕ)) (r : Result T Fault) (e : Fault) (old new : S) → r ≡ Err e → e ≢ Refused WRITE → new ≡ old
    → WritesLineFor bytes has_failed IsLine left_old left_new r old new
no_line bytes has_failed left_old left_new (Ok x) e old new is other same = cc
no_line bytes has_failed left_old left_new (Err f) e old new is other same = record {
  write = λ failed. absurd (other cc);
  done = tt;
  failed = λ failed. absurd (other cc);
  sound = tt;
  unwritten = λ _. same;
}

-- the line of what was given is the line for the words that ask for it
pub line_for : {S T : Type 0} (bytes : S → Option Text) (has_failed : S → Bool) {A B : List ℕ → (Text → Type 0) → Type 0}
    (left_old left_new : Option (List ℕ)) (r : Result T Fault) (old new : S)
    → ((given : List ℕ) (Q : Text → Type 0) → A given Q → B given Q)
    → WritesLineFor bytes has_failed A left_old left_new r old new → WritesLineFor bytes has_failed B left_old left_new r old new
line_for bytes has_failed left_old left_new r old new f w = record {
  write = λ is. let (given, consumed, end, line) = w.write is in (given, consumed, end, f given _ line);
  done = on_ok_weaker r (λ (given, consumed, end, line). (given, consumed, end, f given _ line)) w.done;
  failed = w.failed;
  sound = w.sound;
  unwritten = w.unwritten;
}

-- ---- a line of a table that is refused

-- the sink has failed, or there is no line
abbrev pub IsRefusedLine : Asked → List Row → ℕ → Fault → Type 0
IsRefusedLine asked rows root e = (e ≡ Refused WRITE) ⊎ IsLineRefusal asked rows root e

-- of such a line nothing is written
pub refused_line : {S T : Type 0} (bytes : S → Option Text) (has_failed : S → Bool) (P : Text → Type 0) {asked : Asked} {rows : List Row}
    {root : ℕ} (r : Result T Fault) (e : Fault) (old new : S) → r ≡ Err e → IsLineRefusal asked rows root e → new ≡ old
    → WritesLine bytes has_failed P r old new
refused_line bytes has_failed P r e old new is told same =
    unwritten bytes has_failed P r e old new is (λ write. line_is_no_other e (Refused WRITE) told.faults refl write) same

pub is_no_other : {T : Type 0} (asked : Asked) (rows : List Row) (root : ℕ) (r : Result T Fault) (f : Fault)
    → IfErr r (IsRefusedLine asked rows root) → is_line_fault f ≡ false → f ≢ Refused WRITE → r ≡ Err f → ⊥
is_no_other asked rows root r f why other written is = by (IfErr-at_err (IsRefusedLine asked rows root) is why)
  where
    by : IsRefusedLine asked rows root f → ⊥
    by (inl write) = written write
    by (inr told) = line_is_no_other f f told.faults other refl

write_is_of_no_table : (e : Fault) → e ≡ Refused WRITE → IsTableFault e → ⊥
write_is_of_no_table e write (inl is) = cc
write_is_of_no_table e write (inr (inl is)) = cc
write_is_of_no_table e write (inr (inr (inl is))) = cc
write_is_of_no_table e write (inr (inr (inr is))) = cc

pub faulty_table : {asked : Asked} (rows : List Row) (root : ℕ) (old new : Option (List ℕ)) (e : Fault)
    → GivesAll old new (IsTableText rows root) → IsRefusedLine asked rows root e → IsTableFault e → GivesAll old new (IsFaultyTable e)
faulty_table rows root old new e given (inl write) fault = absurd (write_is_of_no_table e write fault)
faulty_table rows root old new e given (inr told) fault = read_is_faulty rows root old new e given told.refused fault

write_is_no_path : (e : Fault) → e ≡ Refused WRITE → e ≡ Refused DEFINITIONS_PATH → ⊥
write_is_no_path e write path = cc

pub unplaced_table : {T : Type 0} (asked : Asked) (rows : List Row) (root : ℕ) (r : Result T Fault)
    → IfErr r (IsRefusedLine asked rows root) → r ≡ Err (Refused DEFINITIONS_PATH) → IsUnplaced asked rows root
unplaced_table asked rows root r why is = by (IfErr-at_err (IsRefusedLine asked rows root) is why)
  where
    by : IsRefusedLine asked rows root (Refused DEFINITIONS_PATH) → IsUnplaced asked rows root
    by (inl write) = absurd (write_is_no_path _ write refl)
    by (inr told) = has_no_place rows _ told.refused refl

pub line_fault : {asked : Asked} {rows : List Row} {root : ℕ} (e : Fault) → IsRefusedLine asked rows root e → IsTypesFault e
line_fault e (inl write) = inr (inr write)
line_fault e (inr told) = inr (inl told.faults)

pub accepted_fault : {asked : Asked} {rows : List Row} {root : ℕ} (e : Fault) → IsAccepted rows → IsRefusedLine asked rows root e
    → IsOutside e ⊎ (e ≡ Refused DEFINITIONS_PATH)
accepted_fault e accepted (inl write) = inl (inr (inr write))
accepted_fault e accepted (inr told) = is_outside e (told.unfaulty accepted)

pub noted_fault : {asked : Asked} {rows : List Row} {root : ℕ} (e : Fault) → IsAccepted rows → HasPlainNotes rows
    → IsRefusedLine asked rows root e → IsOutside e
noted_fault e accepted plain (inl write) = inr (inr write)
noted_fault e accepted plain (inr told) = inl (told.only_memory accepted plain)
