mod Endings
mod KeptFiles
mod OpenedFiles
mod StoppedRuns
mod ToldFaults
