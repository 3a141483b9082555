-- Maps: keys and values that belong.
use Rattle.std.proofs.Common.{◌≡◌, ℕ, suc, ◌*◌, ◌<◌, ◌≤◌, List, [], ◌∷◌, ◌++◌, length, true, ◌&&◌, Some, refl, ap, ◌∙◌, subst, arith, append_assoc}
use Rattle.schemars_written.proofs.Words.{All, common_steps, All-head, All-tail, Json, json_tokens, members_tokens, Event, Log, Logs, WritesEach, WritesEntry, WritesMap, Data, members_depth, object, Members, no_members, member, of_json, of_members, State, TakesAll, Text, Patterns, AllMembers, Row, rank, IsChecked, key_options, is_key_allowed, belongs_within, every_member, IsPlain, IsAtKey, Gives, GivesAsKey, GivesMembers, NoMembers, EachEntry, IsObject, Fits, MeansUnder, IsKeyUnder, HasShape}
use Rattle.json.specs.Json as json
use Rattle.json.specs.Token as token
use Rattle.serde.specs.Event as event
use Rattle.schemars_shapes.specs.Shape as shape
use Rattle.schemars_types.specs.declared.contract.Contract.TheVariants.{Serialize}
use Rattle.schemars_written.proofs.Atoms.{weaker, step, part_low}
use Rattle.schemars_written.proofs.Lists.{both_true}
use Rattle.schemars_written.proofs.Objects.{EachJson, read_members, object_parts, small, done_gives, struct_gives}

-- ---- how entries are sent

-- between the marks of a key
abbrev Marked : (Log → Log → Type 0) → Log → Log → Type 0
Marked sends old new = (a b : Log) × Logs old a event.key_begins × sends a b × Logs b new event.key_ends

-- what is sent where a value may stand is one key with Q
abbrev GivesKeyOf : (Log → Log → Type 0) → (Text → Type 0) → Type 0
GivesKeyOf sends Q = (es : List Event) (new : Log) → sends (Some es) new
    → (added : List Event) × (new ≡ Some (es ++ added)) ×
    ((rest : List Event) (s last : State) → IsPlain s → TakesAll s (added ++ rest) last
    → (mid : State) × (k : Text) × Q k × IsPlain mid × (mid.tokens ≡ s.tokens ++ token.key k ∷ []) × TakesAll mid rest last)

marked_key : (w : Log → Log → Type 0) (Q : Text → Type 0) → GivesAsKey w Q → GivesKeyOf (Marked w) Q
marked_key w Q given es new sent =
    let begun = es ++ event.key_begins ∷ [] in
    let g = given begun sent.1 (subst (λ (l : Log). w l sent.1) sent.2 sent.3) in
    let ended : new ≡ Some ((begun ++ g.0) ++ event.key_ends ∷ []) = subst (λ (l : Log). Logs l new event.key_ends) g.1 sent.4 in (
      event.key_begins ∷ (g.0 ++ event.key_ends ∷ []),
      ended ∙ ap Some (append_assoc begun g.0 (event.key_ends ∷ []) ∙ append_assoc es (event.key_begins ∷ []) (g.0 ++ event.key_ends ∷ [])),
      λ rest s last plain run.
          let due : IsAtKey run.0 × (run.0.tokens ≡ s.tokens) = grind (arith, common_steps, run.1) in
          let c = g.2 (event.key_ends ∷ rest) run.0 last due.0
          (subst (λ xs. TakesAll run.0 xs last) (append_assoc g.0 (event.key_ends ∷ []) rest) run.2) in
          let over : IsPlain c.5.0 × (c.5.0.tokens ≡ c.0.tokens) = grind (arith, common_steps, c.5.1) in
          (c.5.0, c.1, c.2, over.0, over.1 ∙ c.4 ∙ ap (λ xs. xs ++ token.key c.1 ∷ []) due.1, c.5.2),
    )

entry_gives : (key w ws : Log → Log → Type 0) (Q : Text → Type 0) (P : Json → Type 0) → GivesKeyOf key Q → Gives w P
    → GivesMembers ws (EachEntry Q P)
    → GivesMembers (λ old new. (a b : Log) × key old a × w a b × ws b new) (EachEntry Q P)
entry_gives key w ws Q P first value others es new sent =
    let n = first es sent.0 sent.2 in
    let a = value (es ++ n.0) sent.1 (subst (λ (l : Log). w l sent.1) n.1 sent.3) in
    let b = others ((es ++ n.0) ++ a.0) new (subst (λ (l : Log). ws l new) a.1 sent.4) in (
      n.0 ++ (a.0 ++ b.0),
      b.1 ∙ ap Some (append_assoc (es ++ n.0) a.0 b.0 ∙ append_assoc es n.0 (a.0 ++ b.0)),
      λ rest s last plain run.
          let more : List Event = a.0 ++ (b.0 ++ event.map_ends ∷ rest) in
          let whole : (n.0 ++ (a.0 ++ b.0)) ++ event.map_ends ∷ rest ≡ n.0 ++ more =
          append_assoc n.0 (a.0 ++ b.0) (event.map_ends ∷ rest) ∙ ap (λ xs. n.0 ++ xs) (append_assoc a.0 b.0 (event.map_ends ∷ rest)) in
          let m = n.2 more s last plain (subst (λ xs. TakesAll s xs last) whole run) in
          let c = a.2 (b.0 ++ event.map_ends ∷ rest) m.0 last m.3 m.5 in
          let d = b.2 rest c.0 last c.3 c.5 in (
            d.0,
            json.member m.1 c.1 d.1,
            (m.2, c.2, d.2),
            d.3,
            d.4 ∙ ap (λ xs. xs ++ members_tokens d.1) (c.4 ∙ ap (λ xs. xs ++ json_tokens c.1) m.4)
                ∙ append_assoc (s.tokens ++ token.key m.1 ∷ []) (json_tokens c.1) (members_tokens d.1)
                ∙ append_assoc s.tokens (token.key m.1 ∷ []) (json_tokens c.1 ++ members_tokens d.1),
            d.5,
          ),
    )

none_left : (Q : Text → Type 0) (P : Json → Type 0) (ms : json.Members) → NoMembers ms → EachEntry Q P ms
none_left Q P json.no_members h = tt
none_left Q P (json.member k j ms) h = absurd h

entries_give : {K A : Type 0} (key : K → Log → Log → Type 0) (w : A → Log → Log → Type 0) (U : K → Type 0) (V : A → Type 0)
    (Q : Text → Type 0)
    (P : Json → Type 0) → ((x : K) → U x → GivesAsKey (key x) Q) → ((x : A) → V x → Gives (w x) P)
    → (es : List (K × A)) → All (λ e. U e.0 × V e.1) es → GivesMembers (WritesEach (WritesEntry key w) es) (EachEntry Q P)
entries_give key w U V Q P named given [] all es new sent =
    let a = done_gives es new sent in
    (a.0, a.1, λ rest s last plain run. let b = a.2 rest s last plain run in (b.0, b.1, none_left Q P b.1 b.2, b.3, b.4, b.5))
entries_give key w U V Q P named given (e ∷ more) all es new sent =
    let both = All-head (λ x. U x.0 × V x.1) e more all in
    entry_gives (Marked (key e.0)) (w e.1) (WritesEach (WritesEntry key w) more) Q P (marked_key (key e.0) Q (named e.0 both.0))
    (given e.1 both.1)
    (entries_give key w U V Q P named given more (All-tail (λ x. U x.0 × V x.1) e more all)) es new
    (sent.1.2, sent.0, (sent.1.0, sent.1.1, sent.1.3, sent.1.4, sent.1.5), sent.1.6, sent.2)

-- ---- what maps mean

-- an allowed key with a value of the row
abbrev InMap : List Row → Patterns → ℕ → ℕ → Text → Data → Type 0
InMap rows patterns from value k d = (is_key_allowed patterns (key_options rows from) k ≡ true) × Fits rows patterns value d

members_hold : (rows : List Row) (patterns : Patterns) (from value steps h : ℕ) (ms : Members)
    → value < length rows → rank rows value < length rows → suc h * length rows ≤ steps → members_depth ms ≤ h
    → AllMembers (InMap rows patterns from value) ms
    → every_member
    (λ k w. is_key_allowed patterns (key_options rows from) k && belongs_within rows Serialize patterns steps value w) ms ≡ true
members_hold rows patterns from value steps h no_members known low many deep all = refl
members_hold rows patterns from value steps h (member k d ms) known low many deep all =
    let allowed = is_key_allowed patterns (key_options rows from) in
    both_true (allowed k && belongs_within rows Serialize patterns steps value d)
    (every_member (λ k w. allowed k && belongs_within rows Serialize patterns steps value w) ms)
    (both_true (allowed k) (belongs_within rows Serialize patterns steps value d) all.0.0
    (small rows patterns steps h d many (omega arith) value known low all.0.1))
    (members_hold rows patterns from value steps h ms known low many (omega arith) all.1)

each_read : (reading : Patterns → Type 0) (rows : List Row) (patterns : Patterns) → reading patterns → (from value : ℕ) (ms : json.Members)
    → EachEntry (IsKeyUnder reading rows from) (MeansUnder reading rows value) ms
    → EachJson (λ k j. (d : Data) → of_json j ≡ Some d → InMap rows patterns from value k d) ms
each_read reading rows patterns takes from value json.no_members each = tt
each_read reading rows patterns takes from value (json.member k j ms) each =
    (λ d reads. (each.0 patterns takes, each.1 patterns takes d reads), each_read reading rows patterns takes from value ms each.2)

map_means : (reading : Patterns → Type 0) (rows : List Row) → IsChecked rows → (n from value : ℕ)
    → HasShape rows n (shape.map_from from value)
    → (j : Json) → IsObject (EachEntry (IsKeyUnder reading rows from) (MeansUnder reading rows value)) j → MeansUnder reading rows n j
map_means reading rows checked n from value is json.null all = absurd all
map_means reading rows checked n from value is (json.boolean b) all = absurd all
map_means reading rows checked n from value is (json.number s) all = absurd all
map_means reading rows checked n from value is (json.string s) all = absurd all
map_means reading rows checked n from value is (json.array js) all = absurd all
map_means reading rows checked n from value is (json.object ms) all = λ patterns takes d reads.
    let r = object_parts (of_members ms no_members) d reads in
    let low = part_low rows checked n value (shape.map_from from value) is (1, omega arith, refl) in
    let each = read_members (InMap rows patterns from value) ms no_members r.0
    (each_read reading rows patterns takes from value ms all) tt r.1 in
    subst (λ x. Fits rows patterns n x) r.2 (step rows patterns n (shape.map_from from value) (object r.0) is (λ steps few.
    members_hold rows patterns from value steps (members_depth r.0) r.0 low (checked.rank_bound value low) (omega arith)
    (omega arith) each))

pub map_agrees : {K A : Type 0} (reading : Patterns → Type 0) (rows : List Row) → IsChecked rows → (n from value : ℕ)
    → HasShape rows n (shape.map_from from value)
    → (key : K → Log → Log → Type 0) (w : A → Log → Log → Type 0) (U : K → Type 0) (V : A → Type 0)
    → ((x : K) → U x → GivesAsKey (key x) (IsKeyUnder reading rows from)) → ((x : A) → V x → Gives (w x) (MeansUnder reading rows value))
    → (es : List (K × A)) → All (λ e. U e.0 × V e.1) es → Gives (WritesMap key w es) (MeansUnder reading rows n)
map_agrees reading rows checked n from value is key w U V named given es all =
    let each : json.Members → Type 0 = EachEntry (IsKeyUnder reading rows from) (MeansUnder reading rows value) in
    weaker (WritesMap key w es) (IsObject each) (MeansUnder reading rows n) (map_means reading rows checked n from value is)
    (struct_gives (length es) (WritesEach (WritesEntry key w) es) each
    (entries_give key w U V (IsKeyUnder reading rows from) (MeansUnder reading rows value) named given es all))
