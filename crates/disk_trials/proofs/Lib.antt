mod Happening
