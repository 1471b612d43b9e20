-- Members of a value as the code has them.
use Rattle.rhai_machine.specs.language.Frames as machine
use Rattle.rhai_links.specs.declared.access.Member.{Member as CodeMember}
use Rattle.rhai_links.specs.declared.access.Member.TheVariants as member
use Rattle.rhai_links.specs.declared.access.MemberAccess.{MemberAccess as CodeAccess}

module _ {H : Type 0} where
  -- a member of the code as the machine has it
  abbrev pub member_of : CodeMember H → machine.Member H
  member_of (member.Property name pos) = machine.Property name.now pos
  member_of (member.Item index) = machine.Item index

  -- how the code gets and sets a member, as the machine has it
  abbrev pub access_of : CodeAccess H → machine.MemberAccess H
  access_of access = record { member = member_of access.member; at = access.at; guarded = access.guarded }
