-- The parts of replies are values of their types, as those of a program always are.
use Rattle.std.specs.Prelude.{◌^◌, ◌<◌, List, All}
use Rattle.var_types.specs.declared.answered.Answered.{Answered}
use Rattle.var_types.specs.declared.answered.Route.{Route}
use Rattle.var_types.specs.declared.answered.Route.TheVariants as route
use Rattle.var_types.specs.declared.name.NameFault.{NameFault}
use Rattle.var_types.specs.declared.name.NameFault.TheVariants as fault
use Rattle.var_types.specs.declared.set_reason.SetReason.{SetReason}
use Rattle.var_types.specs.declared.set_reason.SetReason.TheVariants as reason
use Rattle.var_types.specs.declared.reply.ExitReply.{ExitReply}
use Rattle.var_types.specs.declared.reply.ExitReply.TheVariants as exit
use Rattle.var_types.specs.declared.reply.GetReply.{GetReply}
use Rattle.var_types.specs.declared.reply.GetReply.TheVariants as get
use Rattle.var_types.specs.declared.reply.NextReply.{NextReply}
use Rattle.var_types.specs.declared.reply.NextReply.TheVariants as next
use Rattle.var_types.specs.declared.reply.Reply.{Reply}
use Rattle.var_types.specs.declared.reply.Reply.TheVariants as reply
use Rattle.var_types.specs.declared.reply.SetReply.{SetReply}
use Rattle.var_types.specs.declared.reply.SetReply.TheVariants as set
use Rattle.var_types.specs.Guid.{IsGuid}
use Rattle.var_types.specs.Values.{AreBytes, AreUnits}
use Rattle.report_text.specs.PolicyValues.{HasValuesOfPolicy}

-- the parts of a reply are values of their types, as those of a program always are
abbrev pub HasValuesOfGet : GetReply → Type 0
HasValuesOfGet get.NotFound = Unit {0}
HasValuesOfGet (get.TooSmall attributes needed) = (attributes < 2 ^ 32) × (needed < 2 ^ 32)
HasValuesOfGet (get.Ok attributes bytes) = (attributes < 2 ^ 32) × AreBytes bytes
HasValuesOfGet get.OutOfMemory = Unit {0}

abbrev pub HasValuesOfNext : NextReply → Type 0
HasValuesOfNext next.NoSuch = Unit {0}
HasValuesOfNext next.End = Unit {0}
HasValuesOfNext (next.TooSmall needed) = needed < 2 ^ 32
HasValuesOfNext (next.Ok key) = IsGuid key.guid × AreUnits key.name
HasValuesOfNext next.OutOfMemory = Unit {0}

abbrev pub HasValuesOfFault : NameFault → Type 0
HasValuesOfFault fault.Empty = Unit {0}
HasValuesOfFault (fault.TooLong units) = units < 2 ^ 64
HasValuesOfFault (fault.InnerNul at) = at < 2 ^ 32

abbrev pub HasValuesOfReason : SetReason → Type 0
HasValuesOfReason (reason.Name fault) = HasValuesOfFault fault
HasValuesOfReason (reason.Unsupported bits) = bits < 2 ^ 32
HasValuesOfReason (reason.Unknown bits) = bits < 2 ^ 32
HasValuesOfReason reason.RuntimeWithoutBoot = Unit {0}
HasValuesOfReason reason.Hidden = Unit {0}
HasValuesOfReason reason.VolatileAtRuntime = Unit {0}
HasValuesOfReason reason.RuntimeNeedsNonVolatile = Unit {0}
HasValuesOfReason (reason.Descriptor at) = at < 2 ^ 32
HasValuesOfReason (reason.Size have limit) = (have < 2 ^ 64) × (limit < 2 ^ 32)
HasValuesOfReason (reason.Denied place rule) = place < 2 ^ 32
HasValuesOfReason reason.Missing = Unit {0}
HasValuesOfReason reason.NeedsAuthentication = Unit {0}
HasValuesOfReason (reason.AttributesDiffer stored asked) = (stored < 2 ^ 32) × (asked < 2 ^ 32)
HasValuesOfReason reason.Verdict = Unit {0}
HasValuesOfReason (reason.Stamp stored new) = AreBytes stored.bytes × AreBytes new.bytes
HasValuesOfReason (reason.AppendSize have limit) = (have < 2 ^ 64) × (limit < 2 ^ 32)
HasValuesOfReason (reason.Room need have) = (need < 2 ^ 32) × (have < 2 ^ 32)
HasValuesOfReason (reason.HistoryFull made) = made < 2 ^ 64

abbrev pub HasValuesOfSet : SetReply → Type 0
HasValuesOfSet set.Ok = Unit {0}
HasValuesOfSet set.Same = Unit {0}
HasValuesOfSet (set.Refused reason) = HasValuesOfReason reason
HasValuesOfSet set.Device = Unit {0}
HasValuesOfSet set.OutOfMemory = Unit {0}

abbrev pub HasValuesOfExit : ExitReply → Type 0
HasValuesOfExit exit.Ok = Unit {0}
HasValuesOfExit exit.Same = Unit {0}
HasValuesOfExit (exit.HistoryFull made) = made < 2 ^ 64

abbrev pub HasValues : Reply → Type 0
HasValues (reply.Get r) = HasValuesOfGet r
HasValues (reply.Next r) = HasValuesOfNext r
HasValues (reply.Set r) = HasValuesOfSet r
HasValues (reply.Policy r) = HasValuesOfPolicy r
HasValues (reply.Exit r) = HasValuesOfExit r

-- the numbers of a route are values of their types
abbrev pub HasValuesOfRoute : Route → Type 0
HasValuesOfRoute route.Plain = Unit {0}
HasValuesOfRoute route.Cache = Unit {0}
HasValuesOfRoute (route.Merged made held) = (made < 2 ^ 64) × (held < 2 ^ 64)
HasValuesOfRoute (route.Writer holder) = holder < 2 ^ 64
HasValuesOfRoute route.Flushed = Unit {0}
HasValuesOfRoute (route.Deferred holder) = holder < 2 ^ 64

-- the parts of an answered call's reply, its place and its route
abbrev pub AnswerHasValues : Answered → Type 0
AnswerHasValues a = HasValues a.reply × (a.place < 2 ^ 64) × HasValuesOfRoute a.route

-- those of all the answered calls of processors
abbrev pub HaveValues : List (List Answered) → Type 0
HaveValues processors = All (λ answered. All AnswerHasValues answered) processors
