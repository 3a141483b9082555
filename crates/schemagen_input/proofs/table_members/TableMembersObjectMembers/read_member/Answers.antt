-- The member of each name adds what it says.
use Rattle.std.proofs.Common.{◌≡◌, codes, false, subst, sym, rules}
use Rattle.schemagen_input.proofs.Words.{bytes_eq, data_of}
use Rattle.schemagen_input.proofs.TableMembers.{AddsMember, adds_types, adds_root, adds_schema, adds_other}
use Rattle.schemagen_input.proofs.table_members.TableMembersObjectMembers.read_member.Goals as goal

pub returns-in_ok-self-in-types-clause-ok : goal.returns-in_ok-self-in-types-clause-ok
returns-in_ok-self-in-types-clause-ok c =
    let done = c.in_ok-self-in-types.ensures.ok in
    let old = c.args.self.now in
    let listing = c.in_ok-self-in-types.field-0 in
    let named : c.args.name.now ≡ codes "types" = search rules in (
      done.0,
      done.1,
      subst (λ k. AddsMember k done.0 old (record old { listing = listing })) (sym named) (adds_types done.0 old listing done.2),
    )

pub returns-in_ok-self-in-root-clause-ok : goal.returns-in_ok-self-in-root-clause-ok
returns-in_ok-self-in-root-clause-ok c =
    let done = c.in_ok-self-in-root.ensures.ok in
    let old = c.args.self.now in
    let root = c.in_ok-self-in-root.field-0 in
    let named : c.args.name.now ≡ codes "root" = search rules in (
      done.0,
      done.1,
      subst (λ k. AddsMember k done.0 old (record old { root = root })) (sym named) (adds_root done.0 old root done.2),
    )

pub returns-in_ok-read_value-in-text-clause-ok : goal.returns-in_ok-read_value-in-text-clause-ok
returns-in_ok-read_value-in-text-clause-ok c =
    let d = data_of c.in_ok-read_value-in-text.field-0 in
    let old = c.args.self.now in
    let named : c.args.name.now ≡ codes "$schema" = search rules in
    (d, c.in_ok-read_value-in-text.ensures.ok, subst (λ k. AddsMember k d old old) (sym named) (adds_schema d old))

pub returns-in_ok-read_value-in_default-clause-ok : goal.returns-in_ok-read_value-in_default-clause-ok
returns-in_ok-read_value-in_default-clause-ok c =
    let d = data_of c.in_ok-read_value-in_default.field-0 in
    let k = c.args.name.now in
    let types : bytes_eq k (codes "types") ≡ false = search rules in
    let root : bytes_eq k (codes "root") ≡ false = search rules in
    let schema : bytes_eq k (codes "$schema") ≡ false = search rules in
    (d, c.in_ok-read_value-in_default.ensures.ok, adds_other k d c.args.self.now types root schema)
